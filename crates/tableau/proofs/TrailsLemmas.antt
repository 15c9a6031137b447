-- What holds of the tableau after a trail.
use Rattle.std.proofs.Common.{◌≡◌, ℕ, List, [], ◌∷◌, ◌++◌, sym, ◌∙◌, refl, subst}
use Rattle.std.specs.Prelude.{ℤ, ◌↔◌}
use Rattle.tableau.specs.Programs.{Given, IsOrdered, HasSlacks}
use Rattle.tableau.specs.Tableaux.{Tableau, IsStart}
use Rattle.tableau.specs.Exchanges.{IsGood, IsResult, IsResultAt}
use Rattle.tableau.specs.Laws.{MakesRowsZero, HasLaws}
use Rattle.tableau.specs.Trails.{Leads, IsAfter}
use Rattle.tableau.specs.declared.exchange.Exchange.{Exchange}
use Rattle.tableau.specs.declared.bound.Bound.{Bound}
use Rattle.tableau.proofs.Starts.{laws_of_start}
use Rattle.tableau.proofs.Results.{laws_of_result}
use Rattle.tableau.proofs.Points.{zeros_forth, zeros_back, slacks_at_start, zero_where_slacks}

-- the result of an exchange with the given program put in place of its own equal one
module _ (t : Tableau) (i c : ℕ) (b : Bound) (t' : Tableau) (result : IsResultAt t i c b t') where
  abbrev pub plain : Tableau
  plain = record { given = t.given; entry = t'.entry; basis = t'.basis; at_high = t'.at_high }

  pub plain_same : plain ≡ t'
  plain_same = λ x. record { given = sym result.given x; entry = t'.entry; basis = t'.basis; at_high = t'.at_high }

  pub plain_result : IsResultAt t i c b plain
  plain_result = record {
    given = refl;
    rows = result.rows;
    entering = result.entering;
    basis = result.basis;
    standing = λ j low high. let s = result.standing j low high in record { above = s.above; below = s.below; stays = s.stays; breaks_low = s.breaks_low; breaks_high = s.breaks_high };
    slacks_low = result.slacks_low;
  }

-- one exchange: the laws are kept, and the same points make all rows 0
pub laws_after : (t : Tableau) (x : Exchange) (t' : Tableau) → HasLaws t → IsOrdered t.given → IsGood t x → IsResult t x t' → HasLaws t'
laws_after t x t' laws ordered good result = laws_of_result t x.row x.col good.0 t' laws ordered good.1 (result good.0 good.1.outside)

pub given_after : (t : Tableau) (x : Exchange) (t' : Tableau) → IsGood t x → IsResult t x t' → t'.given ≡ t.given
given_after t x t' good result = (result good.0 good.1.outside).given

pub points_after : (t : Tableau) (x : Exchange) (t' : Tableau) → HasLaws t → IsOrdered t.given → IsGood t x → IsResult t x t'
    → (y : ℕ → ℤ) → MakesRowsZero t y ↔ MakesRowsZero t' y
points_after t x t' laws ordered good result y =
    let r = result good.0 good.1.outside in
    let same = plain_same t x.row x.col good.0 t' r in
    let P : Tableau → Type 0 = λ u. MakesRowsZero t y ↔ MakesRowsZero u y in
    subst P same (
      zeros_forth t laws ordered x.row x.col good.0 good.1 t'.entry t'.basis t'.at_high (plain_result t x.row x.col good.0 t' r) y,
      zeros_back t laws ordered x.row x.col good.0 good.1 t'.entry t'.basis t'.at_high (plain_result t x.row x.col good.0 t' r) y,
    )

-- one more exchange
pub leads_more : (t : Tableau) (trail : List Exchange) (u : Tableau) (x : Exchange) (v : Tableau) → Leads t trail u → IsGood u x → IsResult u x v → Leads t (trail ++ x ∷ []) v
leads_more t [] u x v h good result = let P : Tableau → Type 0 = λ y. Leads y (x ∷ []) v in subst P (sym h) (v, good, result, refl)
leads_more t (y ∷ trail) u x v h good result = (h.0, h.1, h.2, leads_more h.0 trail u x v h.3 good result)

pub after_more : (g : Given) (trail : List Exchange) (u : Tableau) (x : Exchange) (v : Tableau) → IsAfter g trail u → IsGood u x → IsResult u x v → IsAfter g (trail ++ x ∷ []) v
after_more g trail u x v h good result = record { start = h.start; started = h.started; leads = leads_more h.start trail u x v h.leads good result }

pub after_none : (g : Given) (t : Tableau) → IsStart g t → IsAfter g [] t
after_none g t h = record { start = t; started = h; leads = refl }

-- the laws along a trail
record Kept (t u : Tableau) : Type 0 where
  pub given : u.given ≡ t.given
  pub laws : HasLaws u
  pub points : (y : ℕ → ℤ) → MakesRowsZero t y ↔ MakesRowsZero u y

kept_along : (t : Tableau) (trail : List Exchange) (u : Tableau) → HasLaws t → IsOrdered t.given → Leads t trail u → Kept t u
kept_along t [] u laws ordered h = let P : Tableau → Type 0 = λ x. Kept t x in subst P h (record { given = refl; laws = laws; points = λ y. (λ z. z, λ z. z) })
kept_along t (x ∷ trail) u laws ordered h =
    let given = given_after t x h.0 h.1 h.2 in
    let first = points_after t x h.0 laws ordered h.1 h.2 in
    let rest = kept_along h.0 trail u (laws_after t x h.0 laws ordered h.1 h.2) (subst (λ (y : Given). IsOrdered y) (sym given) ordered) h.3 in
    record {
      given = rest.given ∙ given;
      laws = rest.laws;
      points = λ y. (λ z. (rest.points y).0 ((first y).0 z), λ z. (first y).1 ((rest.points y).1 z));
    }

pub laws_of_after : (g : Given) (trail : List Exchange) (t : Tableau) → IsOrdered g → IsAfter g trail t → HasLaws t
laws_of_after g trail t ordered h = (kept_along h.start trail t (laws_of_start g h.start h.started) (subst (λ (y : Given). IsOrdered y) (sym h.started.given) ordered) h.leads).laws

pub given_of_after : (g : Given) (trail : List Exchange) (t : Tableau) → IsOrdered g → IsAfter g trail t → t.given ≡ g
given_of_after g trail t ordered h = (kept_along h.start trail t (laws_of_start g h.start h.started) (subst (λ (y : Given). IsOrdered y) (sym h.started.given) ordered) h.leads).given ∙ h.started.given

-- the points that make all rows of a reached tableau 0 are those whose slacks are the values of the rows
pub points_of_after : (g : Given) (trail : List Exchange) (t : Tableau) → IsOrdered g → IsAfter g trail t → (y : ℕ → ℤ) → MakesRowsZero t y ↔ HasSlacks g y
points_of_after g trail t ordered h y =
    let start_ordered = subst (λ (z : Given). IsOrdered z) (sym h.started.given) ordered in
    let start_laws = laws_of_start g h.start h.started in
    let kept = kept_along h.start trail t start_laws start_ordered h.leads in (
      λ zeros. slacks_at_start g h.start y h.started ((kept.points y).1 zeros),
      λ slacks. (kept.points y).0 (zero_where_slacks h.start y start_laws (subst (λ (z : Given). HasSlacks z y) (sym h.started.given) slacks)),
    )
