-- The leaf of a solved box, by the end of its simplex.
use Rattle.std.proofs.Common.{◌≡◌, ℕ, ◌-◌, ◌≤◌, ◌<◌, ◌^◌, Option, Some, None, List, [], ◌∷◌, length, refl, sym, ap, subst, arith, inl, inr, ⊎_elim, ◌∙◌}
use Rattle.std.specs.Prelude.{ℤ, ◌*ℤ◌, unsigned_abs, IfSome}
use Rattle.std.specs.List.{All}
use Rattle.std.proofs.lemmas.List.Elements.{All-weaker}
use Rattle.algebra.proofs.ListsLemmas.{length-list_to}
use Rattle.algebra.proofs.Order.{int_le_refl}
use Rattle.numbers.specs.Fractions.{Fraction}
use Rattle.programs.specs.Programs.{Program, row_count}
use Rattle.road_types.specs.declared.road.Road.{Road}
use Rattle.milp_builder.specs.BoxPrograms.{box_program}
use Rattle.milp_builder.specs.Parts.{IsSplitOf}
use Rattle.milp_builder.specs.declared.boxes.BoxRange.{BoxRange}
use Rattle.milp_builder.specs.declared.boxes.Split.{Split}
use Rattle.tableau.specs.Programs.{Given}
use Rattle.tableau.specs.Tableaux.{Tableau}
use Rattle.tableau.specs.Ends.{multiplier, ray}
use Rattle.tableau.specs.OwnNumbers.{scale_of, ray_of}
use Rattle.tableau.specs.Trails.{Leads}
use Rattle.tableau.specs.declared.bound.Bound.{Bound}
use Rattle.tableau.specs.declared.exchange.Exchange.{Exchange}
use Rattle.tableau.specs.declared.op.Op.{Op}
use Rattle.tableau.proofs.TrailsLemmas.{given_after}
use Rattle.simplex.specs.Givens.{given_of}
use Rattle.simplex.specs.Ends.{IsReached, AreOwnNumbers, IsSpent, IsWide, IsEnd, IsEndOfEither, AreWithin}
use Rattle.simplex.specs.declared.lp_end.LpEnd.{LpEnd}
use Rattle.simplex.specs.declared.lp_end.LpEnd.TheVariants.{Best as BestEnd, Empty, Pivots as PivotsEnd, Wide as WideEnd}
use Rattle.simplex.specs.declared.lp_end.Used.{Used}
use Rattle.simplex.specs.declared.lp_end.Used.TheVariants.{First, Second}
use Rattle.cert_tree.specs.Soundness.{HasPositiveDen}
use Rattle.best_first.proofs.KeyLemmas.{at_most_itself}
use Rattle.branch_bound.specs.Optima.{exchange_budget}
use Rattle.branch_bound.specs.NoteKeys.{IsNarrowKey}
use Rattle.branch_bound.specs.inside.Better.{IsNoDearer, IsBetter}
use Rattle.branch_bound.specs.inside.Grown.{Grown, dead_leaf, stopped_leaf, waiting_leaf, grown_of, IsGrownLeaf, IsGoodNode, IsProvedOfBox, IsWaiting}
use Rattle.branch_bound.specs.inside.Proving.{IsProvedOn}
use Rattle.branch_bound.specs.inside.Searches.{best_cost, IsBest, IsSolvedBox}
use Rattle.branch_bound.specs.inside.Solving.{IsLeafOfBox, AreProving, IsStopOf, IsStopWith, IsDeadLeaf, IsEmptyLeaf}
use Rattle.branch_bound.specs.declared.notes.NodeNote.{NodeNote}
use Rattle.branch_bound.specs.declared.notes.NodeNote.TheVariants.{Pivots, Wide, Limit}
use Rattle.branch_bound.specs.declared.best.Best.{Best}
use Rattle.branch_bound.specs.inside.Solved.{Solved}
use Rattle.branch_bound.specs.declared.work.Proved.{Proved}
use Rattle.branch_bound.specs.declared.work.Waiting.{Waiting}
use Rattle.branch_bound.specs.declared.work.Reason.TheVariants.{Stop}
use Rattle.branch_bound.specs.declared.work.Work.{Work}

-- ---- the end of the simplex in either type

one_range : (first second : ℕ) (program : Program) (budget : ℕ) (end : LpEnd) (used : Used) → IsEndOfEither first second program budget end used → IsEnd second program budget end
one_range first second program budget (BestEnd trail den point scale mults) First h = h.0
one_range first second program budget (Empty trail numbers scale mults) First h = h.0
one_range first second program budget (PivotsEnd trail scale mults rough) First h = h.0
one_range first second program budget (WideEnd trail op scale mults rough) First h = absurd h.1
one_range first second program budget end (Second trail op) h = h.0

pub end_of_either : (first second greatest : ℕ) (program : Program) (budget given : ℕ) (end : LpEnd) (used : Used) → second ≡ greatest → given ≡ budget
    → IsEndOfEither first second program given end used → IsEnd greatest program budget end
end_of_either first second greatest program budget given end used e f h =
    subst (λ (k : ℕ). IsEnd greatest program k end) f (subst (λ (k : ℕ). IsEnd k program given end) e (one_range first second program given end used h))

-- ---- a tableau's own numbers can be narrowed

led_given : (t : Tableau) (trail : List Exchange) (u : Tableau) → Leads t trail u → u.given ≡ t.given
led_given t [] u h = ap (λ (s : Tableau). s.given) (sym h)
led_given t (x ∷ trail) u h = led_given h.0 trail u h.3 ∙ given_after t x h.0 h.1 h.2

pub reached_given : (program : Program) (budget : ℕ) (trail : List Exchange) (t : Tableau) → IsReached program budget trail t → t.given ≡ given_of program
reached_given program budget trail t h = led_given h.after.start trail t h.after.leads ∙ h.after.started.given

pub below_range : (numbers : List ℤ) → AreWithin (2 ^ 127 - 1) numbers → All (λ y. unsigned_abs y < 2 ^ 127) numbers
below_range numbers h =
    All-weaker (λ (y : ℤ). unsigned_abs y ≤ 2 ^ 127 - 1) (λ (y : ℤ). unsigned_abs y < 2 ^ 127) (λ y l. omega arith) numbers h

pub own_proving : (program : Program) (budget : ℕ) (trail : List Exchange) (t : Tableau) (scale : ℤ) (mults : List ℤ) → IsReached program budget trail t
    → AreOwnNumbers program t scale mults → AreWithin (2 ^ 127 - 1) mults → AreProving program scale mults
own_proving program budget trail t scale mults reached own within = record {
  scale_from_one = own.scale_from_one;
  each_row = ap length own.own_mults ∙ length-list_to (multiplier t) t.given.rows ∙ ap (λ (g : Given). g.rows) (reached_given program budget trail t reached);
  within = below_range mults within;
  right_signs = own.right_signs;
}

pub ray_proving : (program : Program) (budget : ℕ) (trail : List Exchange) (t : Tableau) (row : ℕ) (broken : Bound) (numbers : List ℤ) → IsReached program budget trail t
    → numbers ≡ ray_of t row broken → length numbers ≡ row_count program
ray_proving program budget trail t row broken numbers reached own =
    ap length own ∙ length-list_to (ray t row broken) t.given.rows ∙ ap (λ (g : Given). g.rows) (reached_given program budget trail t reached)

-- ---- leaves

pub proved_is : (road : Road) (box : BoxRange) (scale : ℤ) (mults : List ℤ) (proved : Proved) → IsProvedOn (box_program road box) scale mults proved → IsProvedOfBox road box proved
proved_is road box scale mults proved h = record {
  scale_within = h.scale_within;
  mults_sound = record { on_rows = h.on_rows; right_signs = h.right_signs };
  value_is = h.value_is;
  value_within = h.value_within;
}

pub leaf_from : (road : Road) (cost : Option Fraction) (box : BoxRange) (leaf : Work) (grown : Grown) → grown_of leaf ≡ grown → IsGrownLeaf grown → IsGoodNode road cost grown box → IsLeafOfBox road cost box leaf
leaf_from road cost box leaf grown e is_leaf good = record {
  is_leaf = subst IsGrownLeaf (sym e) is_leaf;
  good = subst (λ (g : Grown). IsGoodNode road cost g box) (sym e) good;
}

pub stop_good : (road : Road) (cost : Option Fraction) (box : BoxRange) (scale : ℤ) (mults : List ℤ) (note : NodeNote) (proved : Proved) (leaf : Work)
    → IsProvedOn (box_program road box) scale mults proved → IsStopOf road box proved note (grown_of leaf)
    → IsStopWith road cost (box_program road box) note scale mults → IsLeafOfBox road cost box leaf
stop_good road cost box scale mults note proved leaf p s h =
    let t = h.0 in
    let key : ℤ × ℤ = (proved.value, proved.scale) in
    let narrow = subst (λ (s : ℤ). IsNarrowKey (box_program road box) s mults key) h.1.1.0 p.narrow_key in
    let own = subst (λ (m : List ℤ). IsNarrowKey (box_program road box) (scale_of t) m key) h.1.1.1 narrow in
    let of_box = proved_is road box scale mults proved p in
    ⊎_elim
    (λ e. leaf_from road cost box leaf (stopped_leaf proved note) e tt (of_box, (t, (h.1.0, (key, (own, at_most_itself key))))))
    (λ w.
    let waits : Waiting = record { range = box; split = w.0; reason = Stop note; proved = proved } in
    let good : IsWaiting road cost box waits = record {
      range = refl;
      splits = w.1.0;
      reason = record { tableau = t; stop = h.1.0; narrow_key = own };
      own_bound = of_box;
    } in
    leaf_from road cost box leaf (waiting_leaf waits) w.1.1 tt good)
    s

pub stop_waits : (box : BoxRange) (proved : Proved) (note : NodeNote) (found : Option Split) (split : Split) (leaf : Grown) → found ≡ Some split
    → leaf ≡ waiting_leaf (record { range = box; split = split; reason = Stop note; proved = proved })
    → (road : Road) → IfSome found (λ s. IsSplitOf road box s) → IsStopOf road box proved note leaf
stop_waits box proved note found split leaf f e road h =
    inr (split, (subst (λ (o : Option Split). IfSome o (λ s. IsSplitOf road box s)) f h, e))

pub stop_stays : (box : BoxRange) (proved : Proved) (note : NodeNote) (found : Option Split) (leaf : Grown) → leaf ≡ stopped_leaf proved note
    → (road : Road) → IfSome found (λ s. IsSplitOf road box s) → IsStopOf road box proved note leaf
stop_stays box proved note found leaf e road h = inl e

pub dead_good : (road : Road) (cost : Option Fraction) (box : BoxRange) (leaf : Work) → IsDeadLeaf (box_program road box) leaf → IsLeafOfBox road cost box leaf
dead_good road cost box leaf h =
    leaf_from road cost box leaf (dead_leaf h.pairs) h.is_dead tt
    (record { mults_sound = record { on_rows = h.on_rows; right_signs = h.right_signs }; above_zero = h.above_zero })

pub empty_good : (road : Road) (cost : Option Fraction) (box : BoxRange) (trail : List Exchange) (scale : ℤ) (mults : List ℤ) (leaf : Work)
    → IsEmptyLeaf road box (box_program road box) trail scale mults leaf → IsLeafOfBox road cost box leaf
empty_good road cost box trail scale mults leaf h =
    ⊎_elim
    (λ d. dead_good road cost box leaf d)
    (λ l. stop_good road cost box scale mults (Limit trail l.number) l.leaf_is.proved leaf l.leaf_is.proved_on l.leaf_is.is_stopped (l.stop cost))
    h

-- ---- the best plan stays

pub positive_den : (road : Road) (best : Option Best) → IsBest road best → HasPositiveDen (best_cost best)
positive_den road None h = tt
positive_den road (Some best) h = h.cost_key.scale.from_one

as_dear : (cost : Option Fraction) → IsNoDearer cost cost
as_dear None = tt
as_dear (Some cost) = int_le_refl (cost.num *ℤ cost.den)

pub solved_same : (road : Road) (best : Option Best) (box : BoxRange) (solved : Solved) → IsBest road best → solved.best ≡ best
    → IsLeafOfBox road (best_cost best) box solved.leaf → IsSolvedBox road best box solved
solved_same road best box solved h e l =
    let den = positive_den road best h in
    let better : IsBetter (best_cost best) (best_cost best) = record { no_dearer = as_dear (best_cost best); new_den = den; old_den = den } in
    record {
      best_is = subst (IsBest road) (sym e) h;
      better = subst (λ (b : Option Best). IsBetter (best_cost b) (best_cost best)) (sym e) better;
      is_leaf = l.is_leaf;
      good = subst (λ (b : Option Best). IsGoodNode road (best_cost b) (grown_of solved.leaf) box) (sym e) l.good;
    }

pub spent_stop : (road : Road) (cost : Option Fraction) (program : Program) (trail : List Exchange) (scale : ℤ) (mults : List ℤ)
    → IsSpent program (exchange_budget road) trail scale mults → IsStopWith road cost program (Pivots trail) scale mults
spent_stop road cost program trail scale mults h =
    (h.tableau, ((h.reached, record { whole_budget = h.whole_budget; row = h.row; broken = h.broken; is_row = h.is_row; outside = h.outside }), (h.own.own_scale, h.own.own_mults)))

pub wide_stop : (road : Road) (cost : Option Fraction) (program : Program) (trail : List Exchange) (op : Op) (scale : ℤ) (mults : List ℤ)
    → IsWide (2 ^ 127 - 1) program (exchange_budget road) trail op scale mults → IsStopWith road cost program (Wide trail op) scale mults
wide_stop road cost program trail op scale mults h =
    (h.past.tableau, ((h.past.reached, h.past.out_of_range), (h.own.own_scale, h.own.own_mults)))
