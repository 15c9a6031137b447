use Rattle.std.proofs.Common.{rules, FitsSigned, ◌+◌, sym, subst, ◌≡◌, pos, get_or, List, ℕ}
use Rattle.std.specs.Prelude.{ℤ}
use Rattle.std.specs.Int.{w128}
use Rattle.std.proofs.lemmas.Int.{to_z-of_z}
use Rattle.cert_tree.specs.Written.{IsWritten}
use Rattle.cert_tree.specs.inside.Pushed.{pushed_unless_zero}
use Rattle.cert_tree.proofs.WrittenLemmas.{written_more}
use Rattle.cert_tree.proofs.pairs.written.Goals as goal

pub loop-before-preserved : goal.loop-before-preserved
loop-before-preserved c =
    let mults = c.args.mults.now in
    let i = c.loop-before.before in
    let fits : FitsSigned w128 (get_or mults i (pos 0)) = search rules in
    let value : c.push_written.new.pairs.items ≡ pushed_unless_zero c.loop-before.pairs.items (i + 1) (get_or mults i (pos 0)) = simp to_z-of_z at c.in_ok-push_written.ensures in
    subst (λ (ps : List (ℕ × ℤ)). IsWritten mults (i + 1) ps) (sym value)
    (written_more mults i c.loop-before.pairs.items c.loop-before-test.true c.requires.within c.loop-before.invariant)
