use Rattle.algebra.specs.Lists.{flat_to}
use Rattle.report.specs.Lines.{Adds}
use Rattle.report.specs.inside.Listings.{entry_lines}
use Rattle.report.proofs.entries.Listing.push_all.Given as goal

abbrev pub invariant-loop-before : goal.invariant-loop-before
invariant-loop-before l = Adds (flat_to (entry_lines l.road l.plan l.self l.stage) l.before) l.fn.out.items l.out.items
