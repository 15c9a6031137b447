use Rattle.std.proofs.Common.{◌≡◌}
use Rattle.plan_text.specs.LineForms.{numbers_of}
use Rattle.plan_text.proofs.FormLemmas.{numbers_with}
use Rattle.plan_text.proofs.form.Form.numbers.Given as goal

abbrev pub invariant-loop-word : goal.invariant-loop-word
invariant-loop-word l =
    (goal.iterator-loop-word).can_next l.word-iterator × (goal.iterator-loop-word).is_finite l.word-iterator × (numbers_of l.self l.initial.word-iterator ≡ numbers_with l.self l.numbers.items l.word-iterator)
