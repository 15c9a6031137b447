-- What a run of `solve ROAD CERT` says, a run of `trial NUMBER` and one of `carry ROAD CERT NEW`: the plan, the bound and the certificate mean what they say.
--     IsRoadOf told name made      the road of the named file and of its table, or the end that is due where there is none
--     IsOpenNote, ShowsOpenLeaf, ShowsWhy      a leaf was left open below the cost, and its own note, which is one of an open leaf, is shown
--     SumsTo road plan cost      the cost is the sum of the items of the report's cost table
--     IsSolved      each sentence of the product's promise, for one certificate
--     HoldsCert, PutsOut      what stands in the file of the certificate and in the output
--     HasSolved, HasTried      both together, for the certificate that is handed out
--     HasCarried      the same for the certificate that was carried
--     KeepsSolve, KeepsTrial, KeepsCarry      the promise for words, files and output
use Rattle.std.specs.Prelude.{◌≡◌, ◌++◌, ℕ, ◌⊎◌, IsTrue, Option, Some, None, IfSome, Result, Ok, List, [], length, ◌≤◌, ◌+ℤ◌}
use Rattle.std.specs.FinMap.{get}
use Rattle.std.specs.List.{All}
use Rattle.outside.specs.Files.{Files, with_file}
use Rattle.outside.specs.Written.{GrewBy}
use Rattle.numbers.specs.Fractions.{Fraction, HasValue}
use Rattle.road_types.specs.Faults.{road_fault}
use Rattle.road_types.specs.declared.road.Road.{Road}
use Rattle.plan_rules.specs.declared.plan.Plan.{Plan}
use Rattle.plan_rules.specs.Rules.{IsAdmissible}
use Rattle.plan_rules.specs.Costs.{cut_total, fill_total, haul_total, access_total, removal_total}
use Rattle.milp_builder.specs.Boxes.{root_box}
use Rattle.milp_builder.specs.BoxPrograms.{box_program}
use Rattle.milp_builder.specs.Parts.{first_part, second_part}
use Rattle.milp_builder.specs.declared.boxes.BoxRange.{BoxRange}
use Rattle.cert_tree.specs.Trees.{box_tree_of, node_count}
use Rattle.cert_tree.specs.Soundness.{box_value}
use Rattle.cert_text.specs.CertText.{Certificate, IsCertText, cert_text}
use Rattle.cert_text.specs.Certs.{certificate_of}
use Rattle.cert_text.specs.Validity.{IsValidText, IsUnbeaten, longest_text}
use Rattle.cert_text.specs.declared.cert.Cert.{Cert}
use Rattle.cert_checker.specs.Carriable.{IsCarriableCert}
use Rattle.carried_bounds.specs.Carried.{IsCarried}
use Rattle.report.specs.Lines.{Line, AreLines}
use Rattle.report.specs.Reports.{costs_table}
use Rattle.cert_report.specs.CertReport.{cert_lines}
use Rattle.trial_roads.specs.TrialRoads.{trial_road}
use Rattle.branch_bound.specs.declared.notes.NodeNote.{NodeNote}
use Rattle.branch_bound.specs.declared.notes.NodeNote.TheVariants.{Nodes, Pivots, Wide, Limit}
use Rattle.branch_bound.specs.Endings.{HasPlanAt, IsBelowCost, IsNoStop, HasNodesForAll}
use Rattle.branch_bound.specs.Noted.{Noted, low_with, dead_with, fork_with, tree_of, notes_of, IsShownLow}
use Rattle.branch_bound.specs.Searched.{IsSearched}
use Rattle.roadopt_program.specs.declared.status.Status.{Status}
use Rattle.roadopt_program.specs.declared.status.Status.TheVariants.{Done}
use Rattle.roadopt_program.specs.Due.{road_due, IsDueOnRoad}
use Rattle.roadopt_program.specs.Ends.{End, Output, said}
use Rattle.roadopt_program.specs.CommandWords.{Check, Replay, Solve, Carry, on_road, trial, command_of}
use Rattle.roadopt_program.specs.Inputs.{road_limit, cert_limit, IsGiven, IsGivenIfNamed, table_named}
use Rattle.roadopt_program.specs.Printed.{valid_line, carried_line, trial_line}
use Rattle.roadopt_program.specs.Solving.{HasStatus}
use Rattle.roadopt_program.specs.Statuses.{is_answer}

-- what is made of the named file's bytes, and of those of the table that they name, as far as they are read
pub record IsRoadOf (told : Option Files) (name : List ℕ) (made : Result Road End) : Type 0 where
  pub bytes : Option (List ℕ)
  pub bytes_given : IsGiven told name road_limit bytes
  pub table : Option (List ℕ)
  pub table_given : IsGivenIfNamed told (table_named bytes) road_limit table
  pub made_is : road_due bytes table ≡ made

-- ---- why a gap was left

-- the notes of a leaf that was left open
abbrev pub IsOpenNote : NodeNote → Type 0
IsOpenNote (Nodes trail den point scale mults) = Unit {0}
IsOpenNote (Pivots trail) = Unit {0}
IsOpenNote (Wide trail op) = Unit {0}
IsOpenNote (Limit trail number) = Unit {0}
IsOpenNote note = ⊥

-- some leaf, of a tree with so many nodes, was left open below the cost, or without a plan; its own note is shown, and is one of an open leaf
abbrev pub ShowsOpenLeaf : Road → Option Fraction → ℕ → Noted → BoxRange → Type 0
ShowsOpenLeaf road cost count (low_with scale mults None note) box = ⊥
ShowsOpenLeaf road cost count (low_with scale mults (Some why) note) box =
    IsBelowCost cost (box_value road box scale mults) scale
    × IsOpenNote note
    × IsShownLow road cost count (box_program road box) (box_value road box scale mults, scale) (Some why) note
ShowsOpenLeaf road cost count (dead_with mults note) box = ⊥
ShowsOpenLeaf road cost count (fork_with split note first second) box =
    ShowsOpenLeaf road cost count first (first_part box split) ⊎ ShowsOpenLeaf road cost count second (second_part box split)

-- the tree of the certificate, with the notes at its nodes, shows why a gap was left
pub record ShowsWhy (road : Road) (cert : Cert) (notes : List NodeNote) : Type 0 where
  pub noted : Noted
  pub own_tree : box_tree_of cert.tree ≡ tree_of noted
  pub own_notes : notes ≡ notes_of noted
  pub leaf : ShowsOpenLeaf road cert.cost (node_count (tree_of noted)) noted (root_box road)

-- ---- what a certificate says that a search handed out

-- the stated cost of a plan is the sum of the five items of a report's cost table, over the plan's denominator
abbrev pub SumsTo : Road → Option Plan → Option Fraction → Type 0
SumsTo road (Some plan) (Some cost) =
    HasValue cost (cut_total road plan +ℤ fill_total road plan +ℤ haul_total road plan +ℤ access_total road plan +ℤ removal_total road plan) plan.den
SumsTo road _ _ = Unit {0}

pub record IsSolved (road : Road) (cert : Cert) (notes : List NodeNote) (status : Status) : Type 0 where
  -- where it states no bound, no plan is admissible, over any denominator
  pub no_plan : cert.bound ≡ None → (plan : Plan) → ¬ IsAdmissible road plan
  -- the plan that it states is admissible, and the cost, in lowest terms, is the plan's over its denominator
  pub plan : HasPlanAt road cert.plan cert.cost
  pub sums : SumsTo road cert.plan cert.cost
  -- no admissible plan, over any denominator, costs less than the bound that it states; without one the first sentence again
  pub bound : IsUnbeaten road cert.bound
  -- its text is that of a valid certificate
  pub checked : IsValidText road (cert_text road (certificate_of cert)) (certificate_of cert)
  -- cost and bound are one, or neither stands, unless a leaf was left open, whose own note shows why
  pub gap_shown : (cert.cost ≡ cert.bound) ⊎ ShowsWhy road cert notes
  -- each node of its tree has its note, each shown, and the tree was grown best first
  pub searched : IsSearched road cert.plan cert.cost cert.bound (box_tree_of cert.tree) (node_count (box_tree_of cert.tree)) notes
  -- where no node's note is a stop and the nodes suffice for as many leaves as the road can have, the run is `Done`
  pub certain : All IsNoStop notes → HasNodesForAll road → status ≡ Done
  -- `Done` exactly where cost and bound are one, or neither stands
  pub status_is : HasStatus status cert.cost cert.bound

-- ---- `solve ROAD CERT`

-- files in which the road's file and the table that it names give the same road, and the named file holds the text
pub record HoldsCert (later : Files) (road_name cert_name : List ℕ) (road : Road) (text : List ℕ) : Type 0 where
  pub road_is : IsRoadOf (Some later) road_name (Ok road)
  pub text_is : get later cert_name ≡ Some text

-- what a run has put out of a certificate: its text in the named file, and its report
pub record PutsOut (road : Road) (road_name cert_name : List ℕ) (cert : Cert) (told files : Option Files) (before now : Output) : Type 0 where
  -- the file holds the certificate's text, which is that of no other one, and every other file is as before
  pub file : files ≡ with_file told cert_name (cert_text road (certificate_of cert))
  pub one_cert : (other : Certificate) → IsCertText road (cert_text road (certificate_of cert)) other → other ≡ certificate_of cert
  -- the report of the certificate was printed
  pub report : List ℕ
  pub report_is : AreLines (cert_lines road (certificate_of cert)) report
  pub printed : GrewBy before.written report now.written
  -- where it states a plan, the report ends with the plan's cost table
  pub table : IfSome cert.plan (λ plan. (front : List Line) × (cert_lines road (certificate_of cert) ≡ front ++ costs_table road plan))
  -- `replay` of that file is to print the same bytes, and `check` is to accept it
  pub replayed : (later : Files) → HoldsCert later road_name cert_name road (cert_text road (certificate_of cert))
      → IsDueOnRoad (Some later) (record { verb = Replay; road = road_name; other = cert_name }) None (said Done report)
  pub accepted : (later : Files) → HoldsCert later road_name cert_name road (cert_text road (certificate_of cert))
      → IsDueOnRoad (Some later) (record { verb = Check; road = road_name; other = cert_name }) None (said Done (valid_line cert.cost cert.bound))

-- the promise of `solve`
pub record HasSolved (road : Road) (road_name cert_name : List ℕ) (answer : Option Cert) (notes : List NodeNote) (status : Status) (told files : Option Files) (before now : Output) : Type 0 where
  pub cert : Cert
  pub handed_out : answer ≡ Some cert
  pub solved : IsSolved road cert notes status
  pub puts_out : PutsOut road road_name cert_name cert told files before now

-- for told files that give an accepted road, an answer of `solve` keeps the promise
abbrev pub KeepsSolve : Option Files → List (List ℕ) → Status → Option Cert → List NodeNote → Option Files → Output → Output → Type 0
KeepsSolve told words status cert notes files before now =
    (all : Files) (road_name cert_name : List ℕ) (road : Road) → told ≡ Some all
    → command_of words ≡ Some (on_road (record { verb = Solve; road = road_name; other = cert_name }))
    → IsRoadOf told road_name (Ok road) → IsTrue (is_answer status)
    → HasSolved road road_name cert_name cert notes status told files before now

-- ---- `trial NUMBER`

-- the promise of `trial`
pub record HasTried (number : ℕ) (answer : Option Cert) (notes : List NodeNote) (status : Status) (told files : Option Files) (before now : Output) : Type 0 where
  pub cert : Cert
  pub handed_out : answer ≡ Some cert
  -- no rule of roads refuses the trial road
  pub accepted : road_fault (trial_road number) ≡ None
  pub solved : IsSolved (trial_road number) cert notes status
  pub printed : GrewBy before.written (trial_line number (trial_road number) (node_count (box_tree_of cert.tree)) cert.cost cert.bound status) now.written
  pub no_file : files ≡ told

abbrev pub KeepsTrial : Option Files → List (List ℕ) → Status → Option Cert → List NodeNote → Option Files → Output → Output → Type 0
KeepsTrial told words status cert notes files before now =
    (number : ℕ) → command_of words ≡ Some (trial number) → IsTrue (is_answer status) → HasTried number cert notes status told files before now

-- ---- `carry ROAD CERT NEW`

-- the promise of `carry`
pub record HasCarried (road : Road) (road_name cert_name new_name : List ℕ) (answer : Option Cert) (notes : List NodeNote) (status : Status) (told files : Option Files) (before now : Output) : Type 0 where
  pub cert : Cert
  pub handed_out : answer ≡ Some cert
  pub no_notes : notes ≡ []
  pub done : status ≡ Done
  -- the file of the certificate holds the text of one whose bound can be carried, as far as it is read
  pub bytes : List ℕ
  pub is_given : IsGiven told cert_name cert_limit (Some bytes)
  pub given : Cert
  pub carriable : IsCarriableCert road bytes given
  -- its plan and its splits stand in the certificate that is handed out, each low leaf proves at least as much, and the bound is what they prove
  pub carried : IsCarried road (certificate_of given) (certificate_of cert)
  -- no admissible plan, over any denominator, costs less than the bound that it states; without one none is admissible
  pub bound : IsUnbeaten road cert.bound
  -- the new file holds the certificate's text, and every other file is as before
  pub file : files ≡ with_file told new_name (cert_text road (certificate_of cert))
  pub printed : GrewBy before.written (carried_line cert.cost cert.bound) now.written
  -- where the text isn't too long `check` of that file is to accept it
  pub accepted : length (cert_text road (certificate_of cert)) ≤ longest_text
      → (later : Files) → HoldsCert later road_name new_name road (cert_text road (certificate_of cert))
      → IsDueOnRoad (Some later) (record { verb = Check; road = road_name; other = new_name }) None (said Done (valid_line cert.cost cert.bound))

-- for told files that give an accepted road, an answer of `carry` keeps the promise
abbrev pub KeepsCarry : Option Files → List (List ℕ) → Status → Option Cert → List NodeNote → Option Files → Output → Output → Type 0
KeepsCarry told words status cert notes files before now =
    (all : Files) (road_name cert_name new_name : List ℕ) (road : Road) → told ≡ Some all
    → command_of words ≡ Some (on_road (record { verb = Carry new_name; road = road_name; other = cert_name }))
    → IsRoadOf told road_name (Ok road) → IsTrue (is_answer status)
    → HasCarried road road_name cert_name new_name cert notes status told files before now
