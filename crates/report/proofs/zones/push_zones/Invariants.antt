use Rattle.std.proofs.Common.{◌≡◌, map}
use Rattle.report.specs.Lines.{Adds}
use Rattle.report.specs.Mass.{ordinate, first_of, peak_of, zones_of, zone_line}
use Rattle.report.proofs.zones.push_zones.Given as goal

pub record Holds (P Q R : Type 0) : Type 0 where
  pub first : P
  pub peak : Q
  pub adds : R

abbrev pub invariant-loop-before : goal.invariant-loop-before
invariant-loop-before l = Holds
    (l.run.first ≡ first_of (ordinate l.plan l.stage) l.before)
    (l.run.peak ≡ peak_of (ordinate l.plan l.stage) l.before)
    (Adds (map (zone_line l.plan l.stage) (zones_of (ordinate l.plan l.stage) l.before)) l.fn.out.items l.out.items)
