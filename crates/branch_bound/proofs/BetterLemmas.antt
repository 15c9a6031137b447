-- A better plan keeps all that was good.
use Rattle.std.proofs.Common.{Option, Some, None, List, arith, inl, inr, ⊎_elim}
use Rattle.std.specs.Prelude.{ℤ, pos, ◌≤ℤ◌}
use Rattle.std.proofs.lemmas.Int.{ints}
use Rattle.numbers.specs.Fractions.{Fraction}
use Rattle.programs.specs.Programs.{Program}
use Rattle.programs.specs.Points.{cost_of_point}
use Rattle.road_types.specs.declared.road.Road.{Road}
use Rattle.milp_builder.specs.BoxPrograms.{box_program}
use Rattle.milp_builder.specs.Parts.{first_part, second_part}
use Rattle.milp_builder.specs.declared.boxes.BoxRange.{BoxRange}
use Rattle.milp_builder.specs.declared.boxes.Split.{Split}
use Rattle.cert_tree.specs.Soundness.{IsAtLeastBound, HasPositiveDen}
use Rattle.best_first.proofs.KeyLemmas.{at_most_along}
use Rattle.tableau.specs.Tableaux.{Tableau}
use Rattle.branch_bound.specs.Stops.{IsPastLimit, IsMultiplierPastLimit, HasPlanWithin, IsStop}
use Rattle.branch_bound.specs.Noted.{IsShownSplit}
use Rattle.branch_bound.specs.inside.Better.{IsNoDearer, IsBetter}
use Rattle.branch_bound.specs.inside.Grown.{Grown, dead_leaf, whole_leaf, stopped_leaf, waiting_leaf, grown_fork, IsGoodNode, IsReason, proved_key}
use Rattle.branch_bound.specs.declared.work.Reason.{Reason}
use Rattle.branch_bound.specs.declared.work.Reason.TheVariants.{Asked, Stop}
use Rattle.branch_bound.specs.declared.notes.NodeNote.{NodeNote}
use Rattle.branch_bound.specs.declared.notes.NodeNote.TheVariants.{Fractional, Closed, Dead, Pivots, Wide, Limit, Nodes}

bound_along : (new old : Option Fraction) (value scale : ℤ) → IsBetter new old → pos 1 ≤ℤ scale → IsAtLeastBound value scale old → IsAtLeastBound value scale new
bound_along new None value scale b s h = absurd h
bound_along None (Some old) value scale b s h = absurd b.no_dearer
bound_along (Some new) (Some old) value scale b s h =
    at_most_along (new.num, new.den) (old.num, old.den) (value, scale) b.new_den b.old_den s b.no_dearer h

plan_along : (new old : Option Fraction) (program : Program) (den : ℤ) (point : List ℤ) → IsBetter new old → pos 1 ≤ℤ den → HasPlanWithin old program den point → HasPlanWithin new program den point
plan_along new None program den point b s h = absurd h
plan_along None (Some old) program den point b s h = absurd b.no_dearer
plan_along (Some new) (Some old) program den point b s h =
    at_most_along (new.num, new.den) (old.num, old.den) (cost_of_point program point, den) b.new_den b.old_den s b.no_dearer h

multiplier_along : (road : Road) (new old : Option Fraction) (program : Program) (t : Tableau) (number : ℤ) → IsBetter new old
    → IsMultiplierPastLimit road old program t number → IsMultiplierPastLimit road new program t number
multiplier_along road new old program t number b h = record {
  optimal = h.optimal;
  den = h.den;
  point = h.point;
  own_point = h.own_point;
  whole = h.whole;
  exact = h.exact;
  own = h.own;
  plan = λ within. plan_along new old program h.den h.point b (let above = h.own_point.least.positive in omega (arith, ints)) (h.plan within);
}

limit_along : (road : Road) (new old : Option Fraction) (program : Program) (t : Tableau) (number : ℤ) → IsBetter new old
    → IsPastLimit road old program t number → IsPastLimit road new program t number
limit_along road new old program t number b h = record {
  past = h.past;
  which = ⊎_elim (λ r. inl r) (λ rest. inr (⊎_elim (λ d. inl d) (λ m. inr (multiplier_along road new old program t number b m)) rest)) h.which;
}

stop_along : (road : Road) (new old : Option Fraction) (program : Program) (note : NodeNote) (t : Tableau) → IsBetter new old
    → IsStop road old program note t → IsStop road new program note t
stop_along road new old program (Pivots trail) t b h = h
stop_along road new old program (Wide trail op) t b h = h
stop_along road new old program (Limit trail number) t b h = (h.0, limit_along road new old program t number b h.1)
stop_along road new old program Closed t b h = absurd h
stop_along road new old program Dead t b h = absurd h
stop_along road new old program (Fractional trail den point scale mults) t b h = absurd h
stop_along road new old program (Nodes trail den point scale mults) t b h = absurd h

split_along : (road : Road) (new old : Option Fraction) (program : Program) (split : Split) (note : NodeNote) → IsBetter new old
    → IsShownSplit road old program split note → IsShownSplit road new program split note
split_along road new old program split (Fractional trail den point scale mults) b h = h
split_along road new old program split (Pivots trail) b h = (h.0, stop_along road new old program (Pivots trail) h.0 b h.1)
split_along road new old program split (Wide trail op) b h = (h.0, stop_along road new old program (Wide trail op) h.0 b h.1)
split_along road new old program split (Limit trail number) b h = (h.0, stop_along road new old program (Limit trail number) h.0 b h.1)
split_along road new old program split Closed b h = absurd h.1
split_along road new old program split Dead b h = absurd h.1
split_along road new old program split (Nodes trail den point scale mults) b h = absurd h.1

reason_along : (road : Road) (new old : Option Fraction) (program : Program) (split : Split) (key : ℤ × ℤ) (reason : Reason) → IsBetter new old
    → IsReason road old program split key reason → IsReason road new program split key reason
reason_along road new old program split key (Asked o) b h = h
reason_along road new old program split key (Stop note) b h = record {
  tableau = h.tableau;
  stop = stop_along road new old program note h.tableau b h.stop;
  narrow_key = h.narrow_key;
}

-- what is good stays good where a cheaper plan is found
pub good_along : (road : Road) (new old : Option Fraction) (grown : Grown) (box : BoxRange) → IsBetter new old → IsGoodNode road old grown box → IsGoodNode road new grown box
good_along road new old (dead_leaf mults) box b h = h
good_along road new old (whole_leaf proved) box b h = (h.0, bound_along new old proved.value proved.scale b h.0.scale_within.from_one h.1)
good_along road new old (stopped_leaf proved note) box b h =
    (h.0, (h.1.0, (stop_along road new old (box_program road box) note h.1.0 b h.1.1.0, h.1.1.1)))
good_along road new old (waiting_leaf leaf) box b h = record {
  range = h.range;
  splits = h.splits;
  reason = reason_along road new old (box_program road box) leaf.split (proved_key leaf.proved) leaf.reason b h.reason;
  own_bound = h.own_bound;
}
good_along road new old (grown_fork split note key first second) box b h = (
  h.0,
  split_along road new old (box_program road box) split note b h.1,
  h.2,
  good_along road new old first (first_part box split) b h.3,
  good_along road new old second (second_part box split) b h.4,
)

no_dearer_along : (new mid old : Option Fraction) → HasPositiveDen new → HasPositiveDen mid → HasPositiveDen old → IsNoDearer new mid → IsNoDearer mid old → IsNoDearer new old
no_dearer_along new mid None n m o h k = tt
no_dearer_along new None (Some old) n m o h k = absurd k
no_dearer_along None (Some mid) (Some old) n m o h k = absurd h
no_dearer_along (Some new) (Some mid) (Some old) n m o h k =
    at_most_along (new.num, new.den) (mid.num, mid.den) (old.num, old.den) n m o h k

pub better_along : (new mid old : Option Fraction) → IsBetter new mid → IsBetter mid old → IsBetter new old
better_along new mid old h k = record {
  no_dearer = no_dearer_along new mid old h.new_den h.old_den k.old_den h.no_dearer k.no_dearer;
  new_den = h.new_den;
  old_den = k.old_den;
}
