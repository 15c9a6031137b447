-- What contracts see of a row.
use Rattle.std.specs.Prelude.{ℕ, List, refl}
use Rattle.std.specs.Coded.{Coded, code_by, coded×, coded_ℕ, coded_list}

-- the terms, in their order, and how many there is room for
pub record HeldRow (X : Type 0) : Type 0 where
  pub terms : List X
  pub room : ℕ

-- a row is stored as the pair of its fields
abbrev pub held_row_code : {X : Type 0} → Coded X → Coded (HeldRow X)
held_row_code {X} code =
    code_by (List X × ℕ) (coded× (coded_list code) coded_ℕ) (λ r. (r.terms, r.room))
    (λ p. record { terms = p.0; room = p.1 }) (λ _. refl)
