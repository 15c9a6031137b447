use Rattle.std.proofs.Common.{arith, ◌≡◌, ℕ, ◌+◌, ◌*◌, ◌^◌, ◌<◌, ◌≤◌, List, [], ◌∷◌, length, get_or, take}
use Rattle.std.specs.Prelude.{ℤ, FitsSigned}
use Rattle.std.specs.Int.{w128}
use Rattle.std.proofs.lemmas.Int.{to_z-of_z}
use Rattle.std.proofs.lemmas.List.{take_more}
use Rattle.term_store.specs.declared.term.Term.{Term}
use Rattle.algebra.specs.Numbered.{IsNumber}
use Rattle.programs.specs.Limits.{Rises}
use Rattle.programs.proofs.RisesLemmas.{rises_within, rises_length}
use Rattle.safe_bounds.specs.inside.Drawn.{AreAtMost, HaveDrawn}
use Rattle.safe_bounds.proofs.DrawnLemmas.{more_drawn, wider}
use Rattle.safe_bounds.proofs.rows.draw_terms.Goals as goal

-- a row's term stands on one of the columns
on_column : (n m k : ℕ) (ts : List (Term ℤ)) (other : Term ℤ) → Rises 0 n ts → k < length ts → m ≡ n → IsNumber (get_or ts k other).column m
on_column n m k ts other r l e =
    let h = rises_within 0 n ts r k other l in
    record { from_one = omega (arith, h.0); at_most = omega (arith, h.1) }

room_left : (n k : ℕ) (ts : List (Term ℤ)) (xs ys : List ℤ) → Rises 0 n ts → n ≤ 1000 → k < length ts → AreAtMost (2 ^ 123) xs → ((m : ℕ) → AreAtMost m xs → AreAtMost (m + k * 2 ^ 103) ys) → AreAtMost (2 ^ 124) ys
room_left n k ts xs ys r few l room width =
    let short = rises_length 0 n ts r in
    wider (2 ^ 123 + k * 2 ^ 103) (2 ^ 124) ys (omega arith) (width (2 ^ 123) room)

next_drawn : (xs ys zs : List ℤ) (y : ℤ) (ts : List (Term ℤ)) (k : ℕ) (other : Term ℤ) → k < length ts → HaveDrawn xs y (take k ts) ys → HaveDrawn ys y (get_or ts k other ∷ []) zs → HaveDrawn xs y (take (k + 1) ts) zs
next_drawn xs ys zs y ts k other l p q =
    rw (take_more ts k other l) (more_drawn xs ys zs y (take k ts) (get_or ts k other ∷ []) p q)

next_width : (k m : ℕ) (zs : List ℤ) → AreAtMost (m + k * 2 ^ 103 + 2 ^ 103) zs → AreAtMost (m + (k + 1) * 2 ^ 103) zs
next_width k m zs h = wider (m + k * 2 ^ 103 + 2 ^ 103) (m + (k + 1) * 2 ^ 103) zs (omega arith) h

pub draw_term-requires-clause-column : goal.draw_term-requires-clause-column
draw_term-requires-clause-column c =
    on_column (length c.args.drawn.now) (length c.loop-term.drawn) c.loop-term.term-index c.args.terms.now _ c.requires.rising c.loop-term-test.true c.loop-term.auto.drawn

pub draw_term-requires-clause-room : goal.draw_term-requires-clause-room
draw_term-requires-clause-room c =
    room_left (length c.args.drawn.now) c.loop-term.term-index c.args.terms.now c.args.drawn.now c.loop-term.drawn c.requires.rising c.requires.few c.loop-term-test.true c.requires.room c.loop-term.invariant.1

pub loop-term-preserved : goal.loop-term-preserved
loop-term-preserved c =
    let mult : FitsSigned w128 c.args.mult = c.ranges.mult in
    let before = simp to_z-of_z at c.loop-term.invariant.0 in
    let here = simp to_z-of_z at c.draw_term.ensures.drawn in
    simp to_z-of_z (
      next_drawn c.args.drawn.now c.loop-term.drawn c.draw_term.new.drawn c.args.mult c.args.terms.now c.loop-term.term-index _ c.loop-term-test.true before here,
      λ k h.
          next_width c.loop-term.term-index k c.draw_term.new.drawn
          (c.draw_term.ensures.width (k + c.loop-term.term-index * 2 ^ 103) (c.loop-term.invariant.1 k h)),
    )

pub returns-clause-width : goal.returns-clause-width
returns-clause-width c = λ k h.
    wider (k + c.loop-term.term-index * 2 ^ 103) (k + length c.args.terms.now * 2 ^ 103) c.loop-term.drawn (omega arith) (c.loop-term.invariant.1 k h)
