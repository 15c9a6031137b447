use Rattle.std.proofs.Common.{FitsSigned}
use Rattle.std.specs.Int.{w64}
use Rattle.std.proofs.lemmas.Int.{to_z-of_z}
use Rattle.branch_bound.specs.inside.Splitting.{IsInnerBreakpoint}
use Rattle.branch_bound.proofs.splitting.better_at.Goals as goal

pub returns-then-next-best : goal.returns-then-next-best
returns-then-next-best c =
    let fits : FitsSigned w64 c.args.offset = c.ranges.offset in
    let inside : IsInnerBreakpoint c.args.section.now c.args.range c.args.offset = simp to_z-of_z at (c.is_inner_breakpoint.ensures.0 c.if-not-is_inner_breakpoint.false) in
    simp to_z-of_z inside
