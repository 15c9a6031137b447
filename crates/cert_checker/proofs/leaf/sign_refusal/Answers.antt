use Rattle.std.proofs.Common.{◌<◌, length, pos, rules}
use Rattle.programs.specs.Programs.{row_count}
use Rattle.cert_tree.proofs.LeafLemmas.{mult_number}
use Rattle.cert_checker.proofs.leaf.sign_refusal.Goals as goal

pub has_wrong_sign-requires : goal.has_wrong_sign-requires
has_wrong_sign-requires c =
    let l : c.loop-place.place < length c.args.mults.now = search rules in
    mult_number (row_count c.args.milp.now) c.loop-place.place c.args.mults.now (0, pos 0) c.requires.mults l
