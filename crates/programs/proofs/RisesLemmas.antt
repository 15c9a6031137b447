-- Terms that rise by column.
use Rattle.std.proofs.Common.{ℕ, ◌+◌, ◌<◌, ◌≤◌, List, [], ◌∷◌, ◌++◌, length, arith}
use Rattle.std.specs.Prelude.{ℤ}
use Rattle.std.specs.List.{All}
use Rattle.std.proofs.lemmas.List.Elements.{All-nil, All-cons}
use Rattle.term_store.specs.declared.term.Term.{Term}
use Rattle.programs.specs.Limits.{Rises}

pub rises_ordered : (low high : ℕ) (ts : List (Term ℤ)) → Rises low high ts → low ≤ high
rises_ordered low high [] h = h
rises_ordered low high (t ∷ ts) h = let rest = rises_ordered t.column high ts h.1.1 in omega arith

-- from wider ends
pub rises_wider : (low lower high higher : ℕ) (ts : List (Term ℤ)) → lower ≤ low → high ≤ higher → Rises low high ts → Rises lower higher ts
rises_wider low lower high higher [] p q h = omega arith
rises_wider low lower high higher (t ∷ ts) p q h =
    (omega arith, (h.1.0, rises_wider t.column t.column high higher ts (omega arith) q h.1.1))

-- terms that follow others on later columns
pub rises-append : (low middle high : ℕ) (ts more : List (Term ℤ)) → Rises low middle ts → Rises middle high more → Rises low high (ts ++ more)
rises-append low middle high [] more p q = rises_wider middle low high high more p (omega arith) q
rises-append low middle high (t ∷ ts) more p q = (p.0, (p.1.0, rises-append t.column middle high ts more p.1.1 q))

-- each term stands on a column above `low` and at most at `high`
pub rises_within : (low high : ℕ) (ts : List (Term ℤ)) → Rises low high ts → All (λ t. (low < t.column) × (t.column ≤ high)) ts
rises_within low high [] h = let P : Term ℤ → Type 0 = λ t. (low < t.column) × (t.column ≤ high) in All-nil P
rises_within low high (t ∷ ts) h =
    let top = rises_ordered t.column high ts h.1.1 in
    let rest = rises_within low high ts (rises_wider t.column low high high ts (omega arith) (omega arith) h.1.1) in
    let P : Term ℤ → Type 0 = λ t. (low < t.column) × (t.column ≤ high) in
    All-cons P t ts (h.0, top) rest

-- there are no more terms than columns
pub rises_length : (low high : ℕ) (ts : List (Term ℤ)) → Rises low high ts → low + length ts ≤ high
rises_length low high [] h = omega arith
rises_length low high (t ∷ ts) h = let rest = rises_length t.column high ts h.1.1 in omega arith
