use Rattle.std.proofs.Common.{FitsSigned, rules, arith, ◌<◌, ◌^◌, ◌+◌}
use Rattle.std.specs.Int.{w128}
use Rattle.std.proofs.lemmas.Int.{to_z-of_z}
use Rattle.report.specs.Mass.{ordinate}
use Rattle.report.proofs.MassLemmas.{next_first, next_peak, peak_small, ordinate_small}
use Rattle.report.proofs.zones.next_run.Goals as goal

pub returns-clause-first : goal.returns-clause-first
returns-clause-first c =
    let o = ordinate c.args.plan.now c.args.stage in
    let here : FitsSigned w128 c.net_haul-before.result = search rules in
    let next : FitsSigned w128 c.net_haul.result = search rules in
    next_first o c.args.hop c.args.run.first c.extended.result.first c.requires.first
    (rw (c.net_haul-before.ensures.value, c.net_haul.ensures.value) at (simp to_z-of_z at c.extended.ensures.first))

pub returns-clause-peak : goal.returns-clause-peak
returns-clause-peak c =
    let o = ordinate c.args.plan.now c.args.stage in
    let here : FitsSigned w128 c.net_haul-before.result = search rules in
    let next : FitsSigned w128 c.net_haul.result = search rules in
    next_peak o c.args.hop c.args.run.peak c.extended.result.peak c.requires.peak
    (rw (c.net_haul-before.ensures.value, c.net_haul.ensures.value) at (simp to_z-of_z at c.extended.ensures.peak))

pub returns-clause-small : goal.returns-clause-small
returns-clause-small c =
    let o = ordinate c.args.plan.now c.args.stage in
    let here : FitsSigned w128 c.net_haul-before.result = search rules in
    let next : FitsSigned w128 c.net_haul.result = search rules in
    let is = next_peak o c.args.hop c.args.run.peak c.extended.result.peak c.requires.peak
    (rw (c.net_haul-before.ensures.value, c.net_haul.ensures.value) at (simp to_z-of_z at c.extended.ensures.peak)) in
    rw is (peak_small o (2 ^ 127) (c.args.hop + 1) (λ k. ordinate_small c.args.plan.now c.requires.fits c.args.stage k) (omega arith))
