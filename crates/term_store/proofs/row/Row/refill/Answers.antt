use Rattle.std.proofs.Common.{◌≡◌, ◌∙◌, ◌<◌, ◌+◌, ℕ, List, [], ◌∷◌, ◌++◌, length, take, get_or, ap, sym, arith}
use Rattle.std.proofs.lemmas.List.{take_more, length-take}
use Rattle.term_store.proofs.row.Row.refill.Goals as goal

-- one more term behind the first ones
one_more : {X : Type 0} (terms before now : List X) (i : ℕ) (term : X) → before ≡ take i terms → term ≡ get_or terms i term → i < length terms → now ≡ before ++ term ∷ [] → now ≡ take (i + 1) terms
one_more terms before now i term first at within is =
    is ∙ (ap (λ l. l ++ term ∷ []) first ∙ (ap (λ x. take i terms ++ x ∷ []) at ∙ sym (take_more terms i term within)))

pub push-requires : goal.push-requires
push-requires g c =
    omega (arith, ap length c.loop-term.invariant.0, length-take c.loop-term.term-index c.args.terms.now, c.loop-term.invariant.1, c.clear.ensures.room, c.requires)

pub loop-term-preserved : goal.loop-term-preserved
loop-term-preserved g c = (
  one_more c.args.terms.now c.loop-term.self.terms c.push.new.self.terms c.loop-term.term-index c.term-item.result c.loop-term.invariant.0 c.term-item.is c.loop-term-test.true c.push.ensures.terms,
  c.push.ensures.room ∙ c.loop-term.invariant.1,
)
