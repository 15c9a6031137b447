use Rattle.std.proofs.Common.{◌≡◌, ◌==◌, false}
use Rattle.std.proofs.lemmas.List.Elements.{All-more}
use Rattle.std.proofs.lemmas.Bool.{ne_eqb}
use Rattle.text_parts.proofs.PartsLemmas.{parts_at, read_at, one_part}
use Rattle.text_parts.proofs.cut.cut_at.Goals as goal

pub returns-then-byte-separator-clause-parts : goal.returns-then-byte-separator-clause-parts
returns-then-byte-separator-clause-parts c =
    parts_at _ _ _ c.loop-place-test.true c.if-byte-separator.true c.loop-place.invariant

pub returns-then-byte-separator-clause-whole : goal.returns-then-byte-separator-clause-whole
returns-then-byte-separator-clause-whole c = read_at _ _ _ c.loop-place-test.true c.if-byte-separator.true

pub returns-clause-parts : goal.returns-clause-parts
returns-clause-parts c = one_part _ _ _ c.loop-place-test.false c.loop-place.invariant

pub loop-place-preserved : goal.loop-place-preserved
loop-place-preserved c =
    All-more (λ b. (b == c.args.separator) ≡ false) c.args.bytes.now c.loop-place.place 0 c.loop-place-test.true c.loop-place.invariant
    (ne_eqb _ _ c.if-byte-separator.false)
