-- The answers of `solve`, `trial` and `carry` keep their promise.
use Rattle.std.specs.Prelude.{ℕ, ◌⊎◌, ◌≤◌, false, IsTrue, Option, Some, None, IfSome, Result, Ok, List, [], ◌∷◌, ◌++◌, length, take, ℤ}
use Rattle.std.specs.Option.{option_map}
use Rattle.std.specs.FinMap.{get}
use Rattle.std.proofs.Common.{◌≡◌, inl, inr, arith, sym, ap, ap₂, subst, refl, append_assoc, ◌∙◌}
use Rattle.std.proofs.lemmas.Bool.{false≢true}
use Rattle.std.proofs.lemmas.List.{take_all}
use Rattle.std.proofs.lemmas.List.Elements.{All-nil, All-cons, All-head, All-tail}
use Rattle.std.specs.List.{All}
use Rattle.outside.specs.Faults.{HasRisen}
use Rattle.outside.specs.Files.{Files}
use Rattle.outside.specs.Written.{GrewBy}
use Rattle.numbers.specs.Fractions.{Fraction}
use Rattle.road_types.specs.Faults.{road_fault}
use Rattle.road_types.specs.declared.road.Road.{Road}
use Rattle.road_types.proofs.AcceptedRoad.{IsAccepted-from_fault}
use Rattle.plan_rules.specs.declared.plan.Plan.{Plan}
use Rattle.plan_rules.specs.Costs.{cost_of}
use Rattle.milp_builder.specs.Boxes.{root_box}
use Rattle.milp_builder.specs.BoxPrograms.{box_program}
use Rattle.milp_builder.specs.Parts.{first_part, second_part}
use Rattle.milp_builder.specs.declared.boxes.BoxRange.{BoxRange}
use Rattle.cert_tree.specs.Trees.{box_tree_of, node_count}
use Rattle.cert_tree.specs.Soundness.{box_value}
use Rattle.cert_tree.specs.declared.tree.Why.{Why}
use Rattle.programs.specs.Programs.{Program}
use Rattle.cert_text.specs.CertText.{IsCertText, cert_text}
use Rattle.cert_text.specs.Certs.{priced_of, ArePaired, certificate_of}
use Rattle.cert_text.specs.Validity.{IsValidText, IsUnbeaten, longest_text, stated_cost}
use Rattle.cert_text.specs.declared.cert.Cert.{Cert}
use Rattle.cert_text.proofs.ValidLaws.{valid_unbeaten}
use Rattle.cert_checker.specs.Carriable.{IsCarriableCert}
use Rattle.cert_report.specs.CertReport.{open_leaves, plan_stated, cert_lines}
use Rattle.report.specs.Lines.{Line, AreLines}
use Rattle.report.specs.Reports.{said_line, sizes_text, leaves_text, found_lines, found_tables, report_lines, profile_table, earthwork_table, haul_table, blocks_table, costs_table, plan_tables}
use Rattle.report.specs.declared.findings.OpenLeaves.{OpenLeaves}
use Rattle.trial_roads.specs.TrialRoads.{trial_road}
use Rattle.branch_bound.specs.declared.finding.Found.{Found}
use Rattle.branch_bound.specs.declared.notes.NodeNote.{NodeNote}
use Rattle.branch_bound.specs.declared.notes.NodeNote.TheVariants.{Fractional, Closed, Dead, Pivots, Wide, Limit, Nodes}
use Rattle.branch_bound.specs.Endings.{HasPlanAt, HasOpenBelow, IsNoStop, HasNoStops, HasNodesForAll}
use Rattle.branch_bound.specs.Found.{IsFound}
use Rattle.branch_bound.specs.Noted.{Noted, low_with, dead_with, fork_with, tree_of, notes_of, IsShownLow, AreShown}
use Rattle.branch_bound.specs.Searched.{IsSearched}
use Rattle.roadopt_program.specs.declared.ending.Product.{Product}
use Rattle.roadopt_program.specs.declared.ending.Product.TheVariants.{Searched, Carried}
use Rattle.roadopt_program.specs.declared.status.Status.{Status}
use Rattle.roadopt_program.specs.declared.status.Status.TheVariants.{Done, Gap, WriteFault, NoMemory, CertRefused}
use Rattle.roadopt_program.specs.CertChecking.{PrintsValid, Checks}
use Rattle.roadopt_program.specs.Replaying.{Replays}
use Rattle.roadopt_program.specs.Due.{road_due, Follows, IsDueOnRoad, IsDue, Due}
use Rattle.roadopt_program.specs.Ends.{End, Output, after_fault, files_with, said, missing_end}
use Rattle.roadopt_program.specs.CommandWords.{Check, Replay, Solve, Carry, Command, on_road, trial, command_of}
use Rattle.roadopt_program.specs.Headline.{HasCarried, KeepsCarry, IsRoadOf, IsOpenNote, ShowsOpenLeaf, ShowsWhy, SumsTo, IsSolved, HoldsCert, PutsOut, HasSolved, KeepsSolve, HasTried, KeepsTrial}
use Rattle.roadopt_program.specs.Inputs.{road_limit, cert_limit, IsGiven, IsGivenIfNamed, table_named}
use Rattle.roadopt_program.specs.Printed.{valid_line, cert_refused_line, trial_line}
use Rattle.roadopt_program.specs.Runs.{HandsOut, IsAnswered, IsGivenUp, AnswersSolve, AnswersCarry, AnswersTrial}
use Rattle.roadopt_program.specs.Solving.{HasStatus, SolvesBy, Solves}
use Rattle.roadopt_program.specs.Carrying.{CarriesBy, CarriesBytes, Carries}
use Rattle.roadopt_program.specs.Trying.{TriesBy, Tries}
use Rattle.roadopt_program.specs.Statuses.{is_answer}
use Rattle.roadopt_program.specs.inside.Outcomes.{Prints, Outcome, TrialOutcome, TriesOnly}
use Rattle.roadopt_program.proofs.DueLaws.{carriable_text, same_some, same_if_named, same_cert, end_kind, found_status}
use Rattle.roadopt_program.proofs.RunLaws.{due_of, HasFailed, finished}
use Rattle.roadopt_program.proofs.StatusLemmas.{answer_after_fault}

-- ---- why a gap was left

open_note : (road : Road) (cost : Option Fraction) (count : ℕ) (program : Program) (bound : ℤ × ℤ) (why : Why) (note : NodeNote) → IsShownLow road cost count program bound (Some why) note → IsOpenNote note
open_note road cost count program bound why (Nodes trail den point scale mults) h = tt
open_note road cost count program bound why (Pivots trail) h = tt
open_note road cost count program bound why (Wide trail op) h = tt
open_note road cost count program bound why (Limit trail number) h = tt
open_note road cost count program bound why Closed h = let e = h.0 in cc
open_note road cost count program bound why Dead h = h
open_note road cost count program bound why (Fractional trail den point scale mults) h = h

shows_leaf : (road : Road) (cost : Option Fraction) (count : ℕ) (noted : Noted) (box : BoxRange) → AreShown road cost count noted box → HasOpenBelow road cost noted box → ShowsOpenLeaf road cost count noted box
shows_leaf road cost count (low_with scale mults None note) box shown below = below
shows_leaf road cost count (low_with scale mults (Some why) note) box shown below =
    (below, open_note road cost count (box_program road box) (box_value road box scale mults, scale) why note shown, shown)
shows_leaf road cost count (dead_with mults note) box shown below = below
shows_leaf road cost count (fork_with split note first second) box shown (inl below) = inl (shows_leaf road cost count first (first_part box split) shown.1 below)
shows_leaf road cost count (fork_with split note first second) box shown (inr below) = inr (shows_leaf road cost count second (second_part box split) shown.2 below)

shows_gap : (road : Road) (cert : Cert) (count : ℕ) (notes : List NodeNote) (s : IsSearched road cert.plan cert.cost cert.bound (box_tree_of cert.tree) count notes)
    → HasOpenBelow road cert.cost s.noted (root_box road) → ShowsWhy road cert notes
shows_gap road cert count notes s below =
    let same : count ≡ node_count (tree_of s.noted) = s.counted ∙ ap node_count s.own_tree in
    let shown = subst (λ (n : ℕ). AreShown road cert.cost n s.noted (root_box road)) same s.shown in
    record { noted = s.noted; own_tree = s.own_tree; own_notes = s.own_notes; leaf = shows_leaf road cert.cost (node_count (tree_of s.noted)) s.noted (root_box road) shown below }

closed_or_shown : (road : Road) (cert : Cert) (count : ℕ) (notes : List NodeNote) (s : IsSearched road cert.plan cert.cost cert.bound (box_tree_of cert.tree) count notes)
    → (cert.cost ≡ cert.bound) ⊎ HasOpenBelow road cert.cost s.noted (root_box road) → (cert.cost ≡ cert.bound) ⊎ ShowsWhy road cert notes
closed_or_shown road cert count notes s (inl same) = inl same
closed_or_shown road cert count notes s (inr below) = inr (shows_gap road cert count notes s below)

-- ---- what a certificate says

sums : (road : Road) (plan : Option Plan) (cost : Option Fraction) → HasPlanAt road plan cost → SumsTo road plan cost
unfolding cost_of
sums road None None h = tt
sums road None (Some cost) h = tt
sums road (Some plan) None h = tt
sums road (Some plan) (Some cost) h = h.cost_is.value

all_left : {X : Type 0} (P : X → Type 0) (xs ys : List X) → All P (xs ++ ys) → All P xs
all_left P [] ys h = All-nil P
all_left P (x ∷ xs) ys h = All-cons P x xs (All-head P x (xs ++ ys) h) (all_left P xs ys (All-tail P x (xs ++ ys) h))

all_right : {X : Type 0} (P : X → Type 0) (xs ys : List X) → All P (xs ++ ys) → All P ys
all_right P [] ys h = h
all_right P (x ∷ xs) ys h = all_right P xs ys (All-tail P x (xs ++ ys) h)

-- a tree whose notes are no stops
no_stops : (noted : Noted) → All IsNoStop (notes_of noted) → HasNoStops noted
no_stops (low_with scale mults cause note) h = All-head IsNoStop note [] h
no_stops (dead_with mults note) h = All-head IsNoStop note [] h
no_stops (fork_with split note first second) h =
    let rest = All-tail IsNoStop note (notes_of first ++ notes_of second) h in
    (All-head IsNoStop note (notes_of first ++ notes_of second) h, no_stops first (all_left IsNoStop (notes_of first) (notes_of second) rest), no_stops second (all_right IsNoStop (notes_of first) (notes_of second) rest))

done_of : (status : Status) (cost bound : Option Fraction) → HasStatus status cost bound → cost ≡ bound → status ≡ Done
done_of Done cost bound h same = refl
done_of Gap cost bound h same = absurd (h same)
done_of _ cost bound h same = absurd h

certain : (road : Road) (cert : Cert) (count : ℕ) (notes : List NodeNote) (status : Status) (s : IsSearched road cert.plan cert.cost cert.bound (box_tree_of cert.tree) count notes)
    → HasStatus status cert.cost cert.bound → All IsNoStop notes → HasNodesForAll road → status ≡ Done
certain road cert count notes status s h none nodes =
    done_of status cert.cost cert.bound h (s.enough (no_stops s.noted (subst (λ (n : List NodeNote). All IsNoStop n) s.own_notes none)) nodes)

-- the cost table is the end of a report
table_of_tables : (road : Road) (plan : Plan) → (front : List Line) × (plan_tables road plan ≡ front ++ costs_table road plan)
unfolding plan_tables
table_of_tables road plan =
    let a = profile_table road plan in
    let b = earthwork_table road plan in
    let c = haul_table road plan in
    let d = blocks_table road plan in
    let e = costs_table road plan in
    (a ++ (b ++ (c ++ d)), ap (λ x. a ++ (b ++ x)) (sym (append_assoc c d e)) ∙ ap (λ x. a ++ x) (sym (append_assoc b (c ++ d) e)) ∙ sym (append_assoc a (b ++ (c ++ d)) e))

table_of_report : (road : Road) (plan : Plan) (bound : Option Fraction) (leaves : OpenLeaves) → (front : List Line) × (report_lines road (Some plan) bound leaves ≡ front ++ costs_table road plan)
unfolding report_lines found_tables
table_of_report road plan bound leaves =
    let tables = table_of_tables road plan in
    let a = said_line (sizes_text road) ∷ [] in
    let b = found_lines road (Some plan) bound in
    let c = said_line (leaves_text leaves) ∷ [] in
    let e = costs_table road plan in (
      a ++ (b ++ (c ++ tables.0)),
      ap (λ x. a ++ (b ++ (c ++ x))) tables.1
          ∙ ap (λ x. a ++ (b ++ x)) (sym (append_assoc c tables.0 e))
          ∙ ap (λ x. a ++ x) (sym (append_assoc b (c ++ tables.0) e))
          ∙ sym (append_assoc a (b ++ (c ++ tables.0)) e),
    )

ends_with_table : (road : Road) (plan : Option Plan) (cost bound : Option Fraction) (leaves : OpenLeaves) → ArePaired plan cost
    → IfSome plan (λ p. (front : List Line) × (report_lines road (plan_stated (priced_of plan cost)) bound leaves ≡ front ++ costs_table road p))
ends_with_table road None cost bound leaves h = tt
ends_with_table road (Some plan) None bound leaves h = absurd h
ends_with_table road (Some plan) (Some cost) bound leaves h = table_of_report road plan bound leaves

own_text : (road : Road) (found : Found) → IsFound road found → IsCertText road (cert_text road (certificate_of found.cert)) (certificate_of found.cert)
own_text road found f = record { has_text = f.spelled.has_text; is_text = refl }

valid_text : (road : Road) (found : Found) → IsFound road found → IsValidText road (cert_text road (certificate_of found.cert)) (certificate_of found.cert)
valid_text road found f = record { short = f.short; text = own_text road found f; valid = f.valid }

no_plan : (road : Road) (bound : Option Fraction) → IsUnbeaten road bound → bound ≡ None → IsUnbeaten road None
no_plan road bound h none = subst (IsUnbeaten road) none h

is_solved : (road : Road) (found : Found) (status : Status) → IsFound road found → HasStatus status found.cert.cost found.cert.bound → IsSolved road found.cert found.notes status
is_solved road found status f h = record {
  no_plan = λ none. no_plan road found.cert.bound f.unbeaten none;
  plan = f.searched.has_plan;
  sums = sums road found.cert.plan found.cert.cost f.searched.has_plan;
  bound = f.unbeaten;
  checked = valid_text road found f;
  gap_shown = closed_or_shown road found.cert found.count found.notes f.searched f.searched.ends;
  searched = subst (λ (n : ℕ). IsSearched road found.cert.plan found.cert.cost found.cert.bound (box_tree_of found.cert.tree) n found.notes) f.searched.counted f.searched;
  certain = certain road found.cert found.count found.notes status f.searched h;
  status_is = h;
}

-- ---- what `replay` and `check` make of the file

short_enough : (n : ℕ) → n ≤ longest_text → n ≤ cert_limit
unfolding longest_text cert_limit
short_enough n h = omega (arith, h)

given_text : (later : Files) (name text : List ℕ) → length text ≤ longest_text → get later name ≡ Some text → IsGiven (Some later) name cert_limit (Some text)
given_text later name text short is =
    ap Some (sym (take_all cert_limit text (short_enough (length text) short))) ∙ ap (λ o. option_map (take cert_limit) o) (sym is)

paired_cost : (plan : Option Plan) (cost : Option Fraction) → ArePaired plan cost → cost ≡ stated_cost (priced_of plan cost)
paired_cost None None h = refl
paired_cost None (Some cost) h = absurd h
paired_cost (Some plan) None h = absurd h
paired_cost (Some plan) (Some cost) h = refl

replays : (road : Road) (found : Found) (report : List ℕ) → road_fault road ≡ None → IsFound road found → AreLines (cert_lines road (certificate_of found.cert)) report
    → Replays road (Some (cert_text road (certificate_of found.cert))) (said Done report)
replays road found report accepted f lines = (accepted, (record { cert = certificate_of found.cert; valid = valid_text road found f; report = lines }, refl))

checks : (road : Road) (found : Found) → road_fault road ≡ None → IsFound road found
    → Checks road (Some (cert_text road (certificate_of found.cert))) (said Done (valid_line found.cert.cost found.cert.bound))
checks road found accepted f =
    let prints : PrintsValid road (cert_text road (certificate_of found.cert)) (valid_line found.cert.cost found.cert.bound) = record {
      checked = record { cost = found.cert.cost; bound = found.cert.bound };
      answer = record { cert = certificate_of found.cert; valid = valid_text road found f; cost_is = paired_cost found.cert.plan found.cert.cost f.spelled.paired; bound_is = refl };
      line_is = refl;
    } in
    (accepted, (prints, refl))

replay_due : (later : Files) (road_name cert_name : List ℕ) (road : Road) (text : List ℕ) (end : End) → length text ≤ longest_text → HoldsCert later road_name cert_name road text → Replays road (Some text) end
    → IsDueOnRoad (Some later) (record { verb = Replay; road = road_name; other = cert_name }) None end
replay_due later road_name cert_name road text end short held h = record {
  given = record { road = held.road_is.bytes; table = held.road_is.table; other = Some text };
  are_given = record { road = held.road_is.bytes_given; table = held.road_is.table_given; other = given_text later cert_name text short held.text_is };
  follows = subst (λ (made : Result Road End). Follows Replay made cert_name (Some text) None end) (sym held.road_is.made_is) (refl, h);
}

check_due : (later : Files) (road_name cert_name : List ℕ) (road : Road) (text : List ℕ) (end : End) → length text ≤ longest_text → HoldsCert later road_name cert_name road text → Checks road (Some text) end
    → IsDueOnRoad (Some later) (record { verb = Check; road = road_name; other = cert_name }) None end
check_due later road_name cert_name road text end short held h = record {
  given = record { road = held.road_is.bytes; table = held.road_is.table; other = Some text };
  are_given = record { road = held.road_is.bytes_given; table = held.road_is.table_given; other = given_text later cert_name text short held.text_is };
  follows = subst (λ (made : Result Road End). Follows Check made cert_name (Some text) None end) (sym held.road_is.made_is) (refl, h);
}

-- ---- `solve`

-- the road that told files give is one
road_is : (files : Files) (name : List ℕ) (road : Road) (bytes table : Option (List ℕ)) → IsRoadOf (Some files) name (Ok road) → IsGiven (Some files) name road_limit bytes
    → IsGivenIfNamed (Some files) (table_named bytes) road_limit table → road_due bytes table ≡ Ok road
road_is files name road bytes table r b t =
    let bytes_are : bytes ≡ r.bytes = b ∙ sym r.bytes_given in
    let table_there = subst (λ (x : Option (List ℕ)). IsGivenIfNamed (Some files) (table_named x) road_limit table) bytes_are t in
    let table_is : table ≡ r.table = same_if_named files (table_named r.bytes) road_limit table r.table table_there r.table_given in
    ap₂ road_due bytes_are table_is ∙ r.made_is

solves_road : (files : Files) (road_name cert_name : List ℕ) (road : Road) (found : Option Product) (end : End) → IsRoadOf (Some files) road_name (Ok road)
    → IsDueOnRoad (Some files) (record { verb = Solve; road = road_name; other = cert_name }) found end → Solves road cert_name found end
solves_road files road_name cert_name road found end r due =
    let made = road_is files road_name road due.given.road due.given.table r due.are_given.road due.are_given.table in
    subst (λ (m : Result Road End). Follows Solve m cert_name due.given.other found end) made due.follows

puts_out : (road : Road) (road_name cert_name : List ℕ) (found : Found) (end : End) (told files : Option Files) (before now : Output) → SolvesBy road cert_name found end
    → GrewBy before.written end.output now.written → files ≡ files_with told end.file → PutsOut road road_name cert_name found.cert told files before now
puts_out road road_name cert_name found end told files before now h whole file =
    let f = h.is_found in
    let accepted = IsAccepted-from_fault road h.accepted in
    record {
      file = file ∙ ap (λ o. files_with told o) h.file;
      one_cert = λ other t. same_cert road accepted (cert_text road (certificate_of found.cert)) other (certificate_of found.cert) t (own_text road found f);
      report = end.output;
      report_is = h.report;
      printed = whole;
      table = ends_with_table road found.cert.plan found.cert.cost found.cert.bound (open_leaves (box_tree_of found.cert.tree)) f.spelled.paired;
      replayed = λ later held. replay_due later road_name cert_name road (cert_text road (certificate_of found.cert)) (said Done end.output) f.short held (replays road found end.output h.accepted f h.report);
      accepted = λ later held. check_due later road_name cert_name road (cert_text road (certificate_of found.cert)) (said Done (valid_line found.cert.cost found.cert.bound)) f.short held (checks road found h.accepted f);
    }

has_solved : (road : Road) (road_name cert_name : List ℕ) (found : Found) (end : End) (status : Status) (told files : Option Files) (before now : Output) (cert : Option Cert) (notes : List NodeNote)
    → SolvesBy road cert_name found end → end.status ≡ status → GrewBy before.written end.output now.written → files ≡ files_with told end.file → HandsOut (Some (Searched found)) cert notes
    → HasSolved road road_name cert_name cert notes status told files before now
has_solved road road_name cert_name found end status told files before now cert notes h is whole file out =
    let solved = is_solved road found status h.is_found (subst (λ (s : Status). HasStatus s found.cert.cost found.cert.bound) is h.status) in
    record {
      cert = found.cert;
      handed_out = out.cert_is;
      solved = subst (λ (n : List NodeNote). IsSolved road found.cert n status) (sym out.notes_are) solved;
      puts_out = puts_out road road_name cert_name found end told files before now h whole file;
    }

solved_by : (road : Road) (road_name cert_name : List ℕ) (found : Option Product) (end : End) (status : Status) (told files : Option Files) (before now : Output) (cert : Option Cert) (notes : List NodeNote)
    → Solves road cert_name found end → end.status ≡ status → GrewBy before.written end.output now.written → files ≡ files_with told end.file → HandsOut found cert notes
    → HasSolved road road_name cert_name cert notes status told files before now
solved_by road road_name cert_name (Some (Searched found)) end status told files before now cert notes h is whole file out = has_solved road road_name cert_name found end status told files before now cert notes h is whole file out
solved_by road road_name cert_name _ end status told files before now cert notes h is whole file out = absurd h

due_of_words : (told : Option Files) (words : List (List ℕ)) (command : Command) (found : Option Product) (end : End) → command_of words ≡ Some command → Due told words found end → IsDue told command found end
due_of_words told words command found end form due = subst (λ (c : Command). IsDue told c found end) (same_some (command_of words) due.command command due.form form) due.is_due

pub keeps_solve : (told : Option Files) (words : List (List ℕ)) (status : Status) (cert : Option Cert) (notes : List NodeNote) (files : Option Files) (before now : Output)
    → (IsTrue (is_answer status) → IsAnswered told words status cert notes files before now) → KeepsSolve told words status cert notes files before now
keeps_solve told words status cert notes files before now answers all road_name cert_name road is form road_of answer =
    let a = answers answer in
    let due = due_of_words told words (on_road (record { verb = Solve; road = road_name; other = cert_name })) a.found a.end form a.due in
    let there = subst (λ (t : Option Files). IsDueOnRoad t (record { verb = Solve; road = road_name; other = cert_name }) a.found a.end) is due in
    let h = solves_road all road_name cert_name road a.found a.end (subst (λ (t : Option Files). IsRoadOf t road_name (Ok road)) is road_of) there in
    solved_by road road_name cert_name a.found a.end status told files before now cert notes h a.status_is a.whole a.file_is a.hands_out

-- ---- `trial`

has_tried : (number : ℕ) (found : Found) (end : End) (status : Status) (told files : Option Files) (before now : Output) (cert : Option Cert) (notes : List NodeNote)
    → TriesBy number found end → end.status ≡ status → GrewBy before.written end.output now.written → files ≡ files_with told end.file → HandsOut (Some (Searched found)) cert notes
    → HasTried number cert notes status told files before now
has_tried number found end status told files before now cert notes h is whole file out =
    let road = trial_road number in
    let solved = is_solved road found status h.is_found (subst (λ (s : Status). HasStatus s found.cert.cost found.cert.bound) is h.status) in
    let line : end.output ≡ trial_line number road (node_count (box_tree_of found.cert.tree)) found.cert.cost found.cert.bound status =
    h.line ∙ ap₂ (λ n s. trial_line number road n found.cert.cost found.cert.bound s) h.is_found.searched.counted is in
    record {
      cert = found.cert;
      handed_out = out.cert_is;
      accepted = h.accepted;
      solved = subst (λ (n : List NodeNote). IsSolved road found.cert n status) (sym out.notes_are) solved;
      printed = subst (λ (l : List ℕ). GrewBy before.written l now.written) line whole;
      no_file = file ∙ ap (λ o. files_with told o) h.no_file;
    }

tried_by : (number : ℕ) (found : Option Product) (end : End) (status : Status) (told files : Option Files) (before now : Output) (cert : Option Cert) (notes : List NodeNote)
    → Tries number found end → end.status ≡ status → GrewBy before.written end.output now.written → files ≡ files_with told end.file → HandsOut found cert notes
    → HasTried number cert notes status told files before now
tried_by number (Some (Searched found)) end status told files before now cert notes h is whole file out = has_tried number found end status told files before now cert notes h is whole file out
tried_by number _ end status told files before now cert notes h is whole file out = absurd h

pub keeps_trial : (told : Option Files) (words : List (List ℕ)) (status : Status) (cert : Option Cert) (notes : List NodeNote) (files : Option Files) (before now : Output)
    → (IsTrue (is_answer status) → IsAnswered told words status cert notes files before now) → KeepsTrial told words status cert notes files before now
keeps_trial told words status cert notes files before now answers number form answer =
    let a = answers answer in
    tried_by number a.found a.end status told files before now cert notes (due_of_words told words (trial number) a.found a.end form a.due) a.status_is a.whole a.file_is a.hands_out

-- ---- a search that is asked for has an answer

solves_answer : (road : Road) (name : List ℕ) (found : Option Product) (end : End) → Solves road name found end → IsTrue (is_answer end.status)
solves_answer road name (Some (Searched found)) end h = found_status end.status found.cert.cost found.cert.bound h.status
solves_answer road name _ end h = absurd h

tries_answer : (number : ℕ) (found : Option Product) (end : End) → Tries number found end → IsTrue (is_answer end.status)
tries_answer number (Some (Searched found)) end h = found_status end.status found.cert.cost found.cert.bound h.status
tries_answer number _ end h = absurd h

solve_answer : (files : Files) (words : List (List ℕ)) (command : Command) (found : Option Product) (end : End) (road_name cert_name : List ℕ) (road : Road) → command_of words ≡ Some command
    → IsDue (Some files) command found end → command_of words ≡ Some (on_road (record { verb = Solve; road = road_name; other = cert_name })) → IsRoadOf (Some files) road_name (Ok road) → IsTrue (is_answer end.status)
solve_answer files words command found end road_name cert_name road form due asks r =
    let is = same_some (command_of words) command (on_road (record { verb = Solve; road = road_name; other = cert_name })) form asks in
    solves_answer road cert_name found end (solves_road files road_name cert_name road found end r (subst (λ (c : Command). IsDue (Some files) c found end) is due))

answers_or_lost : (end : End) (s : Status) (Failed GivenUp : Type 0) → IsTrue (is_answer end.status) → (s ≡ end.status) ⊎ ((s ≡ after_fault end.status) × Failed)
    → IsTrue (is_answer s) ⊎ (((s ≡ WriteFault) × Failed) ⊎ GivenUp)
answers_or_lost end s Failed GivenUp answer (inl p) = inl (subst (λ (x : Status). IsTrue (is_answer x)) (sym p) answer)
answers_or_lost end s Failed GivenUp answer (inr p) = inr (inl (p.0 ∙ answer_after_fault end.status answer, p.1))

pub solve_answers : (told files : Option Files) (words : List (List ℕ)) (command : Command) (r n w v : ℕ) (before now : Output) (s : Status) (cert : Option Cert) (notes : List NodeNote)
    → command_of words ≡ Some command → Outcome told command files r n w v before now s cert notes → AnswersSolve told words r n w v before now s
solve_answers told files words command r n w v before now s cert notes form (inl c) all road_name cert_name road is asks road_of =
    let due = due_of told command r n c.found c.end c.made in
    let answer = solve_answer all words command c.found c.end road_name cert_name road form (subst (λ (t : Option Files). IsDue t command c.found c.end) is due) asks
    (subst (λ (t : Option Files). IsRoadOf t road_name (Ok road)) is road_of) in
    answers_or_lost c.end s (HasFailed w v before now) (IsGivenUp r n s) answer (finished told files c.found c.end w v before now s (end_kind told command c.found c.end due) c.finishes)
solve_answers told files words command r n w v before now s cert notes form (inr g) all road_name cert_name road is asks road_of = inr (inr g.given_up)

tried_answers : (end : End) (before now : Output) (s : Status) → IsTrue (is_answer end.status) → Prints end.status end.output before now s
    → IsTrue (is_answer s) ⊎ (((s ≡ WriteFault) × HasRisen before.faults now.faults) ⊎ (s ≡ NoMemory))
tried_answers end before now s answer (inl p) = inl (subst (λ (x : Status). IsTrue (is_answer x)) (sym p.0) answer)
tried_answers end before now s answer (inr (inl p)) = inl (subst (λ (x : Status). IsTrue (is_answer x)) (sym p.0) answer)
tried_answers end before now s answer (inr (inr p)) = inr (inl (p.0 ∙ answer_after_fault end.status answer, p.1))

trial_outcome_answers : (number : ℕ) (before now : Output) (s : Status) (cert : Option Cert) (notes : List NodeNote) → TrialOutcome number before now s cert notes
    → IsTrue (is_answer s) ⊎ (((s ≡ WriteFault) × HasRisen before.faults now.faults) ⊎ (s ≡ NoMemory))
trial_outcome_answers number before now s cert notes (inl t) = tried_answers t.end before now s (tries_answer number t.found t.end t.tries) t.prints
trial_outcome_answers number before now s cert notes (inr m) = inr (inr m.0)

pub trial_answers : (words : List (List ℕ)) (command : Command) (before now : Output) (s : Status) (cert : Option Cert) (notes : List NodeNote)
    → command_of words ≡ Some command → TriesOnly command before now s cert notes → AnswersTrial words before now s
trial_answers words command before now s cert notes form h number asks =
    trial_outcome_answers number before now s cert notes
    (subst (λ (c : Command). TriesOnly c before now s cert notes) (same_some (command_of words) command (trial number) form asks) h)

-- ---- `carry`

checks_carried : (road : Road) (bytes name : List ℕ) (cert : Cert) (end : End) → CarriesBy road bytes name cert end → length (cert_text road (certificate_of cert)) ≤ longest_text
    → Checks road (Some (cert_text road (certificate_of cert))) (said Done (valid_line cert.cost cert.bound))
checks_carried road bytes name cert end h short =
    let text : IsCertText road (cert_text road (certificate_of cert)) (certificate_of cert) = record { has_text = h.spelled.has_text; is_text = refl } in
    let prints : PrintsValid road (cert_text road (certificate_of cert)) (valid_line cert.cost cert.bound) = record {
      checked = record { cost = cert.cost; bound = cert.bound };
      answer = record {
        cert = certificate_of cert;
        valid = record { short = short; text = text; valid = h.carried.valid };
        cost_is = paired_cost cert.plan cert.cost h.spelled.paired;
        bound_is = refl;
      };
      line_is = refl;
    } in
    (h.accepted, (prints, refl))

carries_road : (files : Files) (road_name cert_name new_name : List ℕ) (road : Road) (found : Option Product) (end : End) → IsRoadOf (Some files) road_name (Ok road)
    → (due : IsDueOnRoad (Some files) (record { verb = Carry new_name; road = road_name; other = cert_name }) found end) → Carries road new_name due.given.other found end
carries_road files road_name cert_name new_name road found end r due =
    let made = road_is files road_name road due.given.road due.given.table r due.are_given.road due.are_given.table in
    subst (λ (m : Result Road End). Follows (Carry new_name) m new_name due.given.other found end) made due.follows

has_carried : (road : Road) (road_name cert_name new_name bytes : List ℕ) (made : Cert) (end : End) (status : Status) (told files : Option Files) (before now : Output) (cert : Option Cert) (notes : List NodeNote)
    → CarriesBy road bytes new_name made end → IsGiven told cert_name cert_limit (Some bytes) → end.status ≡ status → GrewBy before.written end.output now.written → files ≡ files_with told end.file
    → HandsOut (Some (Carried made)) cert notes → HasCarried road road_name cert_name new_name cert notes status told files before now
has_carried road road_name cert_name new_name bytes made end status told files before now cert notes h given is whole file out = record {
  cert = made;
  handed_out = out.cert_is;
  no_notes = out.notes_are;
  done = sym is ∙ ap (λ (e : End). e.status) h.end_is;
  bytes = bytes;
  is_given = given;
  given = h.given;
  carriable = h.carriable;
  carried = h.carried;
  bound = valid_unbeaten road (IsAccepted-from_fault road h.accepted) (certificate_of made) h.spelled.has_text.bound h.carried.valid;
  file = file ∙ ap (λ (e : End). files_with told e.file) h.end_is;
  printed = subst (λ (l : List ℕ). GrewBy before.written l now.written) (ap (λ (e : End). e.output) h.end_is) whole;
  accepted = λ short later held.
      check_due later road_name new_name road (cert_text road (certificate_of made)) (said Done (valid_line made.cost made.bound)) short held (checks_carried road bytes new_name made end h short);
}

no_answer : (end other : End) → end ≡ other → is_answer other.status ≡ false → IsTrue (is_answer end.status) → ⊥
no_answer end other h n answer = false≢true (sym n ∙ sym (ap (λ (e : End). is_answer e.status) h) ∙ answer)

carried_bytes : (road : Road) (road_name cert_name new_name bytes : List ℕ) (found : Option Product) (end : End) (status : Status) (told files : Option Files) (before now : Output) (cert : Option Cert) (notes : List NodeNote)
    → CarriesBytes road new_name bytes found end → IsGiven told cert_name cert_limit (Some bytes) → IsTrue (is_answer end.status) → end.status ≡ status → GrewBy before.written end.output now.written
    → files ≡ files_with told end.file → HandsOut found cert notes → HasCarried road road_name cert_name new_name cert notes status told files before now
carried_bytes road road_name cert_name new_name bytes None end status told files before now cert notes h given answer is whole file out =
    absurd (no_answer end (said CertRefused (cert_refused_line h.rule h.number)) h.end_is refl answer)
carried_bytes road road_name cert_name new_name bytes (Some (Carried made)) end status told files before now cert notes h given answer is whole file out =
    has_carried road road_name cert_name new_name bytes made end status told files before now cert notes h given is whole file out
carried_bytes road road_name cert_name new_name bytes _ end status told files before now cert notes h given answer is whole file out = absurd h

carried_by : (road : Road) (road_name cert_name new_name : List ℕ) (given : Option (List ℕ)) (found : Option Product) (end : End) (status : Status) (told files : Option Files) (before now : Output) (cert : Option Cert) (notes : List NodeNote)
    → Carries road new_name given found end → IsGiven told cert_name cert_limit given → IsTrue (is_answer end.status) → end.status ≡ status → GrewBy before.written end.output now.written
    → files ≡ files_with told end.file → HandsOut found cert notes → HasCarried road road_name cert_name new_name cert notes status told files before now
carried_by road road_name cert_name new_name None found end status told files before now cert notes h given answer is whole file out = absurd (no_answer end missing_end h.1 refl answer)
carried_by road road_name cert_name new_name (Some bytes) found end status told files before now cert notes h given answer is whole file out =
    carried_bytes road road_name cert_name new_name bytes found end status told files before now cert notes h given answer is whole file out

carry_kept : (all : Files) (words : List (List ℕ)) (status : Status) (cert : Option Cert) (notes : List NodeNote) (files : Option Files) (before now : Output) (road_name cert_name new_name : List ℕ) (road : Road)
    → IsAnswered (Some all) words status cert notes files before now → command_of words ≡ Some (on_road (record { verb = Carry new_name; road = road_name; other = cert_name }))
    → IsRoadOf (Some all) road_name (Ok road) → IsTrue (is_answer status) → HasCarried road road_name cert_name new_name cert notes status (Some all) files before now
carry_kept all words status cert notes files before now road_name cert_name new_name road a form r answer =
    let due = due_of_words (Some all) words (on_road (record { verb = Carry new_name; road = road_name; other = cert_name })) a.found a.end form a.due in
    carried_by road road_name cert_name new_name due.given.other a.found a.end status (Some all) files before now cert notes
    (carries_road all road_name cert_name new_name road a.found a.end r due) due.are_given.other
    (subst (λ (s : Status). IsTrue (is_answer s)) (sym a.status_is) answer) a.status_is a.whole a.file_is a.hands_out

pub keeps_carry : (told : Option Files) (words : List (List ℕ)) (status : Status) (cert : Option Cert) (notes : List NodeNote) (files : Option Files) (before now : Output)
    → (IsTrue (is_answer status) → IsAnswered told words status cert notes files before now) → KeepsCarry told words status cert notes files before now
keeps_carry told words status cert notes files before now answers all road_name cert_name new_name road is form road_of answer =
    subst (λ (t : Option Files). HasCarried road road_name cert_name new_name cert notes status t files before now) (sym is)
    (carry_kept all words status cert notes files before now road_name cert_name new_name road
    (subst (λ (t : Option Files). IsAnswered t words status cert notes files before now) is (answers answer)) form
    (subst (λ (t : Option Files). IsRoadOf t road_name (Ok road)) is road_of) answer)

-- a bound that can be carried is
carries_answer : (road : Road) (name bytes : List ℕ) (given : Cert) (found : Option Product) (end : End) → CarriesBytes road name bytes found end → IsCarriableCert road bytes given → IsTrue (is_answer end.status)
carries_answer road name bytes given None end h carriable = absurd (h.none (certificate_of given) (carriable_text road bytes given carriable))
carries_answer road name bytes given (Some (Carried cert)) end h carriable = ap (λ (e : End). is_answer e.status) h.end_is
carries_answer road name bytes given _ end h carriable = absurd h

carry_answer : (files : Files) (words : List (List ℕ)) (command : Command) (found : Option Product) (end : End) (road_name cert_name new_name bytes : List ℕ) (road : Road) (given : Cert)
    → command_of words ≡ Some command → IsDue (Some files) command found end → command_of words ≡ Some (on_road (record { verb = Carry new_name; road = road_name; other = cert_name }))
    → IsRoadOf (Some files) road_name (Ok road) → IsGiven (Some files) cert_name cert_limit (Some bytes) → IsCarriableCert road bytes given → IsTrue (is_answer end.status)
carry_answer files words command found end road_name cert_name new_name bytes road given form due asks r there carriable =
    let is = same_some (command_of words) command (on_road (record { verb = Carry new_name; road = road_name; other = cert_name })) form asks in
    let own = subst (λ (c : Command). IsDue (Some files) c found end) is due in
    let h = carries_road files road_name cert_name new_name road found end r own in
    let same : own.given.other ≡ Some bytes = own.are_given.other ∙ sym there in
    carries_answer road new_name bytes given found end (subst (λ (o : Option (List ℕ)). Carries road new_name o found end) same h) carriable

pub carry_answers : (told files : Option Files) (words : List (List ℕ)) (command : Command) (r n w v : ℕ) (before now : Output) (s : Status) (cert : Option Cert) (notes : List NodeNote)
    → command_of words ≡ Some command → Outcome told command files r n w v before now s cert notes → AnswersCarry told words r n w v before now s
carry_answers told files words command r n w v before now s cert notes form (inl c) all road_name cert_name new_name bytes road given is asks road_of there carriable =
    let due = due_of told command r n c.found c.end c.made in
    let answer = carry_answer all words command c.found c.end road_name cert_name new_name bytes road given form (subst (λ (t : Option Files). IsDue t command c.found c.end) is due) asks
    (subst (λ (t : Option Files). IsRoadOf t road_name (Ok road)) is road_of) (subst (λ (t : Option Files). IsGiven t cert_name cert_limit (Some bytes)) is there) carriable in
    answers_or_lost c.end s (HasFailed w v before now) (IsGivenUp r n s) answer (finished told files c.found c.end w v before now s (end_kind told command c.found c.end due) c.finishes)
carry_answers told files words command r n w v before now s cert notes form (inr g) all road_name cert_name new_name bytes road given is asks road_of there carriable = inr (inr g.given_up)

not_both : {A : Type 0} {x : A} (o : Option A) → o ≡ None → o ≡ Some x → ⊥
not_both o p q = cc

-- nothing is promised of words that are no form
pub usage_solve_answers : (told : Option Files) (words : List (List ℕ)) (r n w v : ℕ) (before now : Output) (s : Status) → command_of words ≡ None → AnswersSolve told words r n w v before now s
usage_solve_answers told words r n w v before now s none files road_name cert_name road is form road_of = absurd (not_both (command_of words) none form)

pub usage_trial_answers : (words : List (List ℕ)) (before now : Output) (s : Status) → command_of words ≡ None → AnswersTrial words before now s
usage_trial_answers words before now s none number form = absurd (not_both (command_of words) none form)

pub usage_solve : (told : Option Files) (words : List (List ℕ)) (status : Status) (cert : Option Cert) (notes : List NodeNote) (files : Option Files) (before now : Output)
    → command_of words ≡ None → KeepsSolve told words status cert notes files before now
usage_solve told words status cert notes files before now none all road_name cert_name road is form road_of answer = absurd (not_both (command_of words) none form)

pub usage_trial : (told : Option Files) (words : List (List ℕ)) (status : Status) (cert : Option Cert) (notes : List NodeNote) (files : Option Files) (before now : Output)
    → command_of words ≡ None → KeepsTrial told words status cert notes files before now
usage_trial told words status cert notes files before now none number form answer = absurd (not_both (command_of words) none form)

pub usage_carry : (told : Option Files) (words : List (List ℕ)) (status : Status) (cert : Option Cert) (notes : List NodeNote) (files : Option Files) (before now : Output)
    → command_of words ≡ None → KeepsCarry told words status cert notes files before now
usage_carry told words status cert notes files before now none all road_name cert_name new_name road is form road_of answer = absurd (not_both (command_of words) none form)

pub usage_carry_answers : (told : Option Files) (words : List (List ℕ)) (r n w v : ℕ) (before now : Output) (s : Status) → command_of words ≡ None → AnswersCarry told words r n w v before now s
usage_carry_answers told words r n w v before now s none files road_name cert_name new_name bytes road given is form road_of there carriable = absurd (not_both (command_of words) none form)
