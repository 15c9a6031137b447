-- Told files leave one due end beside what a search found: its status, its output and its file. And what kind of end is due.
use Rattle.std.specs.Prelude.{ℕ, ◌<◌, zero, suc, ◌-◌, IsTrue, Option, Some, None, Result, Ok, Err, List, [], ◌∷◌, ℤ}
use Rattle.std.proofs.Common.{◌≡◌, get_or, arith, sym, refl, ap, ap₂, subst, ◌∙◌}
use Rattle.outside.specs.Files.{Files}
use Rattle.road_types.specs.declared.fault.Fault.{Fault}
use Rattle.road_types.specs.declared.road.Road.{Road}
use Rattle.road_file.specs.RoadOf.{table_name_of, road_of}
use Rattle.plan_rules.specs.declared.plan.Plan.{Plan}
use Rattle.plan_rules.specs.declared.verdict.Rule.{Rule}
use Rattle.plan_rules.specs.declared.verdict.Rule.TheVariants.{P1, P2, P3, P4, P5, P6, P7, P8, P9}
use Rattle.plan_rules.specs.Costs.{cost_of}
use Rattle.plan_rules.specs.Rules.{IsFirstBroken, rule_number}
use Rattle.plan_text.specs.inside.PlanReading.{plan_of_text}
use Rattle.plan_text.specs.Misfits.{refused_line}
use Rattle.plan_text.proofs.AnswerLaws.{plan_of_text-exact}
use Rattle.numbers.proofs.FractionsLemmas.{same_value_fraction}
use Rattle.roadopt_program.specs.declared.ending.Product.{Product}
use Rattle.roadopt_program.specs.declared.ending.Product.TheVariants.{Searched, Carried}
use Rattle.roadopt_program.specs.declared.status.Status.{Status}
use Rattle.roadopt_program.specs.declared.status.Status.TheVariants.{Done, Gap, RoadRefused, PlanBroken, PlanRefused, CertRefused, Missing}
use Rattle.roadopt_program.specs.Due.{◌>>=◌, keeps_rules, is_table_there, road_due, FollowsRoad, Follows, IsDueOnRoad, IsDue, Due}
use Rattle.roadopt_program.specs.Ends.{End, said, missing_end}
use Rattle.roadopt_program.specs.CommandWords.{Verb, Judge, Check, Replay, Solve, Mass, Carry, RoadCommand, Command, on_road, trial, command_of, name_written}
use Rattle.roadopt_program.specs.Inputs.{GivenFiles, IsGivenWithin, IsGivenIfNamed, table_named, road_limit, other_limit}
use Rattle.roadopt_program.specs.Judging.{PrintsFraction, PrintsFirstBroken, PrintsRefusedLine, OfPlan, JudgesText, OfPlanBytes, Judges}
use Rattle.roadopt_program.specs.Printed.{plan_refused_line, broken_line, admissible_line, cert_refused_line, valid_line, trial_line, road_refused_line}
use Rattle.roadopt_program.specs.CertChecking.{PrintsValid, PrintsRefusal, OfCertBytes, Checks}
use Rattle.roadopt_program.specs.Replaying.{PrintsLines, OfReported, Reports}
use Rattle.roadopt_program.specs.Solving.{HasStatus, SolvesBy}
use Rattle.roadopt_program.specs.Carrying.{CarriesBytes, Carries}
use Rattle.roadopt_program.specs.Trying.{TriesBy}
use Rattle.report.specs.Lines.{Line, AreLines}
use Rattle.report.proofs.OneReport.{one_text}
use Rattle.cert_report.specs.CertReport.{cert_lines, cert_mass_lines}
use Rattle.road_types.specs.Accepted.{IsAccepted}
use Rattle.numbers.specs.Fractions.{Fraction}
use Rattle.cert_text.specs.Certs.{certificate_of}
use Rattle.trial_roads.specs.TrialRoads.{trial_road}
use Rattle.branch_bound.specs.declared.finding.Found.{Found}
use Rattle.cert_text.specs.inside.CertReading.{cert_of_text}
use Rattle.cert_checker.specs.Refusals.{refused}
use Rattle.cert_text.specs.Validity.{stated_cost}
use Rattle.cert_checker.specs.declared.refusal.Refusal.{Refusal}
use Rattle.cert_checker.proofs.OneRefusal.{one_refusal}
use Rattle.cert_checker.proofs.CarryLaws.{one_carry_refusal}
use Rattle.cert_checker.specs.Carriable.{IsCarriableCert, IsCarriableText, IsFirstCarryRefusal}
use Rattle.cert_checker.specs.declared.refusal.CertRule.{CertRule}
use Rattle.cert_text.specs.declared.cert.Cert.{Cert}
use Rattle.cert_text.specs.CertText.{Certificate, IsCertText}
use Rattle.cert_text.proofs.CertLaws.{cert_of_text-exact}
use Rattle.road_types.proofs.AcceptedRoad.{IsAccepted-from_fault}
use Rattle.roadopt_program.specs.Runs.{HasOneEnd}
use Rattle.roadopt_program.specs.Statuses.{exit_status, is_answer}
use Rattle.roadopt_program.proofs.StatusLemmas.{may_be_due}

same_ok : {A E : Type 0} (r : Result A E) (x y : A) → r ≡ Ok x → r ≡ Ok y → x ≡ y
same_ok r x y p q = cc

pub same_some : {A : Type 0} (o : Option A) (x y : A) → o ≡ Some x → o ≡ Some y → x ≡ y
same_some o x y p q = cc

same_number : (n m : ℕ) → (n < m → ⊥) → (m < n → ⊥) → n ≡ m
same_number zero zero p q = refl
same_number zero (suc m) p q = absurd (p (omega arith))
same_number (suc n) zero p q = absurd (q (omega arith))
same_number (suc n) (suc m) p q = ap suc (same_number n m (λ l. p (omega (arith, l))) (λ l. q (omega (arith, l))))

-- ---- the first broken rule is one

rule_at : ℕ → Rule
rule_at n = get_or (P1 ∷ P2 ∷ P3 ∷ P4 ∷ P5 ∷ P6 ∷ P7 ∷ P8 ∷ P9 ∷ []) (n - 1) P1

rule_at-number : (r : Rule) → rule_at (rule_number r) ≡ r
unfolding rule_at
rule_at-number P1 = refl
rule_at-number P2 = refl
rule_at-number P3 = refl
rule_at-number P4 = refl
rule_at-number P5 = refl
rule_at-number P6 = refl
rule_at-number P7 = refl
rule_at-number P8 = refl
rule_at-number P9 = refl

less_rule : (road : Road) (plan : Plan) (r s : Rule) (t u p q : ℕ) → IsFirstBroken road plan r t p → IsFirstBroken road plan s u q → rule_number r < rule_number s → ⊥
less_rule road plan r s t u p q a b l = a.broken.not_kept (b.lesser_rules r t p l a.broken.is_place)

same_rule : (road : Road) (plan : Plan) (r s : Rule) (t u p q : ℕ) → IsFirstBroken road plan r t p → IsFirstBroken road plan s u q → r ≡ s
same_rule road plan r s t u p q a b =
    let numbers : rule_number r ≡ rule_number s = same_number (rule_number r) (rule_number s) (less_rule road plan r s t u p q a b) (less_rule road plan s r u t q p b a) in
    sym (rule_at-number r) ∙ ap rule_at numbers ∙ rule_at-number s

less_stage : (road : Road) (plan : Plan) (r : Rule) (t u p q : ℕ) → IsFirstBroken road plan r t p → IsFirstBroken road plan r u q → t < u → ⊥
less_stage road plan r t u p q a b l = a.broken.not_kept (b.lesser_stages t p l a.broken.is_place)

same_stage : (road : Road) (plan : Plan) (r : Rule) (t u p q : ℕ) → IsFirstBroken road plan r t p → IsFirstBroken road plan r u q → t ≡ u
same_stage road plan r t u p q a b = same_number t u (less_stage road plan r t u p q a b) (less_stage road plan r u t q p b a)

less_place : (road : Road) (plan : Plan) (r : Rule) (t p q : ℕ) → IsFirstBroken road plan r t p → IsFirstBroken road plan r t q → p < q → ⊥
less_place road plan r t p q a b l = a.broken.not_kept (b.lesser_places p l a.broken.is_place)

same_place : (road : Road) (plan : Plan) (r : Rule) (t p q : ℕ) → IsFirstBroken road plan r t p → IsFirstBroken road plan r t q → p ≡ q
same_place road plan r t p q a b = same_number p q (less_place road plan r t p q a b) (less_place road plan r t q p b a)

same_broken_line : (road : Road) (plan : Plan) (l k : List ℕ) → PrintsFirstBroken road plan l → PrintsFirstBroken road plan k → l ≡ k
same_broken_line road plan l k a b =
    let rules : b.rule ≡ a.rule = same_rule road plan b.rule a.rule b.stage a.stage b.place a.place b.first a.first in
    let first : IsFirstBroken road plan a.rule b.stage b.place = subst (λ (r : Rule). IsFirstBroken road plan r b.stage b.place) rules b.first in
    let stages : b.stage ≡ a.stage = same_stage road plan a.rule b.stage a.stage b.place a.place first a.first in
    let here : IsFirstBroken road plan a.rule a.stage b.place = subst (λ (t : ℕ). IsFirstBroken road plan a.rule t b.place) stages first in
    let places : b.place ≡ a.place = same_place road plan a.rule a.stage b.place a.place here a.first in
    let line : broken_line b.rule b.stage b.place ≡ broken_line a.rule a.stage a.place =
    ap (λ r. broken_line r b.stage b.place) rules ∙ ap (λ t. broken_line a.rule t b.place) stages ∙ ap (λ p. broken_line a.rule a.stage p) places in
    a.line_is ∙ sym line ∙ sym b.line_is

-- ---- the lines of a judge are one

same_cost_line : (num den : ℤ) (l k : List ℕ) → PrintsFraction num den l → PrintsFraction num den k → l ≡ k
same_cost_line num den l k a b =
    a.line_is ∙ ap admissible_line (same_value_fraction a.cost b.cost num den a.reduced.lowest b.reduced.lowest a.value b.value) ∙ sym b.line_is

same_refused_line : (road : Road) (bytes l k : List ℕ) → PrintsRefusedLine road bytes l → PrintsRefusedLine road bytes k → l ≡ k
same_refused_line road bytes l k a b =
    a.line_is ∙ ap plan_refused_line (same_some (refused_line road bytes) a.number b.number a.refused b.refused) ∙ sym b.line_is

same_of_plan : (road : Road) (plan : Plan) (s t : Status) (l k : List ℕ) → OfPlan road plan s l → OfPlan road plan t k → (s ≡ t) × (l ≡ k)
same_of_plan road plan Done Done l k a b = (refl, same_cost_line (cost_of road plan) plan.den l k a.prints b.prints)
same_of_plan road plan PlanBroken PlanBroken l k a b = (refl, same_broken_line road plan l k a b)
same_of_plan road plan Done PlanBroken l k a b = absurd (b.first.broken.not_kept (a.admissible.keeps b.rule b.stage b.place b.first.broken.is_place))
same_of_plan road plan PlanBroken Done l k a b = absurd (a.first.broken.not_kept (b.admissible.keeps a.rule a.stage a.place a.first.broken.is_place))
same_of_plan road plan Done _ l k a b = absurd b
same_of_plan road plan PlanBroken _ l k a b = absurd b
same_of_plan road plan _ t l k a b = absurd a

same_of_text : (road : Road) (bytes : List ℕ) (s t : Status) (l k : List ℕ) → JudgesText road bytes s l → JudgesText road bytes t k → (s ≡ t) × (l ≡ k)
same_of_text road bytes s t l k a b =
    let same : a.plan ≡ b.plan = same_ok (plan_of_text road bytes) a.plan b.plan (plan_of_text-exact road bytes a.plan a.text) (plan_of_text-exact road bytes b.plan b.text) in
    same_of_plan road b.plan s t l k (subst (λ (p : Plan). OfPlan road p s l) same a.judged) b.judged

same_of_bytes : (road : Road) (bytes : List ℕ) (s t : Status) (l k : List ℕ) → OfPlanBytes road bytes s l → OfPlanBytes road bytes t k → (s ≡ t) × (l ≡ k)
same_of_bytes road bytes PlanRefused PlanRefused l k a b = (refl, same_refused_line road bytes l k a b)
same_of_bytes road bytes PlanRefused _ l k a b = absurd (a.none b.plan b.text)
same_of_bytes road bytes _ PlanRefused l k a b = absurd (b.none a.plan a.text)
same_of_bytes road bytes _ _ l k a b = same_of_text road bytes _ _ l k a b

-- ---- the lines of a check are one

pub same_cert : (road : Road) (acc : IsAccepted road) (bytes : List ℕ) (a b : Certificate) → IsCertText road bytes a → IsCertText road bytes b → a ≡ b
same_cert road acc bytes a b p q = same_ok (cert_of_text road bytes) a b (cert_of_text-exact road acc.rows bytes a p) (cert_of_text-exact road acc.rows bytes b q)

same_valid_line : (road : Road) (acc : IsAccepted road) (bytes l k : List ℕ) → PrintsValid road bytes l → PrintsValid road bytes k → l ≡ k
same_valid_line road acc bytes l k a b =
    let same = same_cert road acc bytes a.answer.cert b.answer.cert a.answer.valid.text b.answer.valid.text in
    let cost = a.answer.cost_is ∙ ap (λ (c : Certificate). stated_cost c.planned) same ∙ sym b.answer.cost_is in
    let bound = a.answer.bound_is ∙ ap (λ (c : Certificate). c.bound) same ∙ sym b.answer.bound_is in
    a.line_is ∙ ap₂ valid_line cost bound ∙ sym b.line_is

line_of : Option Refusal → List ℕ
line_of None = []
line_of (Some refusal) = cert_refused_line refusal.rule refusal.line

same_refusal_line : (road : Road) (acc : IsAccepted road) (bytes l k : List ℕ) → PrintsRefusal road bytes l → PrintsRefusal road bytes k → l ≡ k
unfolding line_of cert_refused_line
same_refusal_line road acc bytes l k a b =
    a.line_is ∙ ap line_of (one_refusal road acc bytes (refused a.rule a.number) (refused b.rule b.number) a.first b.first) ∙ sym b.line_is

same_of_cert : (road : Road) (acc : IsAccepted road) (bytes : List ℕ) (s t : Status) (l k : List ℕ) → OfCertBytes road bytes s l → OfCertBytes road bytes t k → (s ≡ t) × (l ≡ k)
same_of_cert road acc bytes Done Done l k a b = (refl, same_valid_line road acc bytes l k a b)
same_of_cert road acc bytes CertRefused CertRefused l k a b = (refl, same_refusal_line road acc bytes l k a b)
same_of_cert road acc bytes Done CertRefused l k a b = absurd (b.none a.answer.cert a.answer.valid)
same_of_cert road acc bytes CertRefused Done l k a b = absurd (a.none b.answer.cert b.answer.valid)
same_of_cert road acc bytes Done _ l k a b = absurd b
same_of_cert road acc bytes CertRefused _ l k a b = absurd b
same_of_cert road acc bytes _ t l k a b = absurd a

-- ---- the report is one

same_report : (lines : Road → Certificate → List Line) (road : Road) (acc : IsAccepted road) (bytes l k : List ℕ) → PrintsLines lines road bytes l → PrintsLines lines road bytes k → l ≡ k
same_report lines road acc bytes l k a b =
    let same = same_cert road acc bytes a.cert b.cert a.valid.text b.valid.text in
    one_text (lines road b.cert) l k (subst (λ c. AreLines (lines road c) l) same a.report) b.report

same_reported : (lines : Road → Certificate → List Line) (road : Road) (acc : IsAccepted road) (bytes : List ℕ) (s t : Status) (l k : List ℕ)
    → OfReported lines road bytes s l → OfReported lines road bytes t k → (s ≡ t) × (l ≡ k)
same_reported lines road acc bytes Done Done l k a b = (refl, same_report lines road acc bytes l k a b)
same_reported lines road acc bytes CertRefused CertRefused l k a b = (refl, same_refusal_line road acc bytes l k a b)
same_reported lines road acc bytes Done CertRefused l k a b = absurd (b.none a.cert a.valid)
same_reported lines road acc bytes CertRefused Done l k a b = absurd (a.none b.cert b.valid)
same_reported lines road acc bytes Done _ l k a b = absurd b
same_reported lines road acc bytes CertRefused _ l k a b = absurd b
same_reported lines road acc bytes _ t l k a b = absurd a

-- ---- the end is one

same_end : (a b : End) → a.status ≡ b.status → a.output ≡ b.output → a.file ≡ b.file → a ≡ b
same_end a b p q r = λ i. record { status = p i; output = q i; file = r i }

same_given : (g h : GivenFiles) → g.road ≡ h.road → g.table ≡ h.table → g.other ≡ h.other → g ≡ h
same_given g h p q r = λ i. record { road = p i; table = q i; other = r i }

pub same_if_named : (files : Files) (name : Option (List ℕ)) (most : ℕ) (a b : Option (List ℕ)) → IsGivenIfNamed (Some files) name most a → IsGivenIfNamed (Some files) name most b → a ≡ b
same_if_named files None most a b p q = p ∙ sym q
same_if_named files (Some name) most a b p q = p ∙ sym q

-- ---- the end of a search is one

same_status : (s t : Status) (cost bound : Option Fraction) → HasStatus s cost bound → HasStatus t cost bound → s ≡ t
same_status Done Done cost bound p q = refl
same_status Gap Gap cost bound p q = refl
same_status Done Gap cost bound p q = absurd (q p)
same_status Gap Done cost bound p q = absurd (p q)
same_status Done _ cost bound p q = absurd q
same_status Gap _ cost bound p q = absurd q
same_status _ t cost bound p q = absurd p

same_solved : (road : Road) (name : List ℕ) (found : Found) (a b : End) → SolvesBy road name found a → SolvesBy road name found b → a ≡ b
same_solved road name found a b p q =
    same_end a b (same_status a.status b.status found.cert.cost found.cert.bound p.status q.status)
    (one_text (cert_lines road (certificate_of found.cert)) a.output b.output p.report q.report)
    (p.file ∙ sym q.file)

same_tried : (number : ℕ) (found : Found) (a b : End) → TriesBy number found a → TriesBy number found b → a ≡ b
same_tried number found a b p q =
    let status = same_status a.status b.status found.cert.cost found.cert.bound p.status q.status in
    same_end a b status
    (p.line ∙ ap (λ s. trial_line number (trial_road number) found.count found.cert.cost found.cert.bound s) status ∙ sym q.line)
    (p.no_file ∙ sym q.no_file)

same_judged : (road : Road) (other : Option (List ℕ)) (a b : End) → Judges road other a → Judges road other b → a ≡ b
same_judged road None a b p q = p ∙ sym q
same_judged road (Some bytes) a b p q =
    let both = same_of_bytes road bytes a.status b.status a.output b.output p.0 q.0 in
    same_end a b both.0 both.1 (p.1 ∙ sym q.1)

same_checked : (road : Road) (other : Option (List ℕ)) (a b : End) → Checks road other a → Checks road other b → a ≡ b
same_checked road None a b p q = p ∙ sym q
same_checked road (Some bytes) a b p q =
    let both = same_of_cert road (IsAccepted-from_fault road p.0) bytes a.status b.status a.output b.output p.1.0 q.1.0 in
    same_end a b both.0 both.1 (p.1.1 ∙ sym q.1.1)

same_reports : (lines : Road → Certificate → List Line) (road : Road) (other : Option (List ℕ)) (a b : End) → Reports lines road other a → Reports lines road other b → a ≡ b
same_reports lines road None a b p q = p ∙ sym q
same_reports lines road (Some bytes) a b p q =
    let both = same_reported lines road (IsAccepted-from_fault road p.0) bytes a.status b.status a.output b.output p.1.0 q.1.0 in
    same_end a b both.0 both.1 (p.1.1 ∙ sym q.1.1)

-- ---- the end of what is carried is one

same_carry_line : (road : Road) (acc : IsAccepted road) (bytes : List ℕ) (a b : CertRule) (n m : ℕ) → IsFirstCarryRefusal road bytes (refused a n) → IsFirstCarryRefusal road bytes (refused b m)
    → cert_refused_line a n ≡ cert_refused_line b m
unfolding line_of cert_refused_line
same_carry_line road acc bytes a b n m p q = ap line_of (one_carry_refusal road acc bytes (refused a n) (refused b m) p q)

same_carried : (road : Road) (name bytes : List ℕ) (found : Option Product) (a b : End) → CarriesBytes road name bytes found a → CarriesBytes road name bytes found b → a ≡ b
same_carried road name bytes None a b p q =
    p.end_is ∙ ap (λ l. said CertRefused l) (same_carry_line road (IsAccepted-from_fault road p.accepted) bytes p.rule q.rule p.number q.number p.first q.first) ∙ sym q.end_is
same_carried road name bytes (Some (Carried cert)) a b p q = p.end_is ∙ sym q.end_is
same_carried road name bytes _ a b p q = absurd p

same_carries : (road : Road) (name : List ℕ) (given : Option (List ℕ)) (found : Option Product) (a b : End) → Carries road name given found a → Carries road name given found b → a ≡ b
same_carries road name None found a b p q = p.1 ∙ sym q.1
same_carries road name (Some bytes) found a b p q = same_carried road name bytes found a b p q

same_on_road : (verb : Verb) (road : Road) (name : List ℕ) (other : Option (List ℕ)) (found : Option Product) (a b : End)
    → FollowsRoad verb road name other found a → FollowsRoad verb road name other found b → a ≡ b
same_on_road Judge road name other found a b p q = same_judged road other a b p.1 q.1
same_on_road Check road name other found a b p q = same_checked road other a b p.1 q.1
same_on_road Replay road name other found a b p q = same_reports cert_lines road other a b p.1 q.1
same_on_road Mass road name other found a b p q = same_reports cert_mass_lines road other a b p.1 q.1
same_on_road (Carry new) road name other found a b p q = same_carries road name other found a b p q
same_on_road Solve road name other (Some (Searched found)) a b p q = same_solved road name found a b p q
same_on_road Solve road name other _ a b p q = absurd p

same_after : (verb : Verb) (made : Result Road End) (name : List ℕ) (other : Option (List ℕ)) (found : Option Product) (a b : End)
    → Follows verb made name other found a → Follows verb made name other found b → a ≡ b
same_after verb (Err early) name other found a b p q = p.1 ∙ sym q.1
same_after verb (Ok road) name other found a b p q = same_on_road verb road name other found a b p q

same_within : (files : Files) (name : List ℕ) (most : Option ℕ) (a b : Option (List ℕ)) → IsGivenWithin (Some files) name most a → IsGivenWithin (Some files) name most b → a ≡ b
same_within files name None a b p q = p ∙ sym q
same_within files name (Some most) a b p q = p ∙ sym q

-- what told files give is one
given_is : (files : Files) (command : RoadCommand) (found other : Option Product) (a b : End) (p : IsDueOnRoad (Some files) command found a) (q : IsDueOnRoad (Some files) command other b) → q.given ≡ p.given
given_is files command found other a b p q =
    let road : q.given.road ≡ p.given.road = q.are_given.road ∙ sym p.are_given.road in
    let named = subst (λ (r : Option (List ℕ)). IsGivenIfNamed (Some files) (table_named r) road_limit q.given.table) road q.are_given.table in
    let table = same_if_named files (table_named p.given.road) road_limit q.given.table p.given.table named p.are_given.table in
    same_given q.given p.given road table (same_within files command.other (other_limit command.verb) q.given.other p.given.other q.are_given.other p.are_given.other)

same_due : (files : Files) (command : RoadCommand) (found : Option Product) (a b : End) → IsDueOnRoad (Some files) command found a → IsDueOnRoad (Some files) command found b → a ≡ b
same_due files command found a b p q =
    same_after command.verb (road_due p.given.road p.given.table) (name_written command) p.given.other found a b p.follows
    (subst (λ (g : GivenFiles). Follows command.verb (road_due g.road g.table) (name_written command) g.other found b) (given_is files command found found a b p q) q.follows)

same_told_for : (files : Files) (command : Command) (found : Option Product) (a b : End) → IsDue (Some files) command found a → IsDue (Some files) command found b → a ≡ b
same_told_for files (on_road command) found a b p q = same_due files command found a b p q
same_told_for files (trial number) (Some (Searched found)) a b p q = same_tried number found a b p q
same_told_for files (trial number) _ a b p q = absurd p

same_told : (files : Files) (words : List (List ℕ)) (found : Option Product) (a b : End) → Due (Some files) words found a → Due (Some files) words found b → a ≡ b
same_told files words found a b p q =
    let same : q.command ≡ p.command = same_some (command_of words) q.command p.command q.form p.form in
    same_told_for files p.command found a b p.is_due (subst (λ (c : Command). IsDue (Some files) c found b) same q.is_due)

-- for told files and words one end is due at the most beside what a search found
pub one_end : (told : Option Files) (words : List (List ℕ)) → HasOneEnd told words
one_end told words files found a b is p q =
    same_told files words found a b (subst (λ (t : Option Files). Due t words found a) is p) (subst (λ (t : Option Files). Due t words found b) is q)

-- ---- a search stands behind an end or it doesn't

-- a carriable text is that of a certificate whose bound can be carried
pub carriable_text : (road : Road) (bytes : List ℕ) (cert : Cert) → IsCarriableCert road bytes cert → IsCarriableText road bytes (certificate_of cert)
carriable_text road bytes cert c = record { short = c.short; text = record { has_text = c.text.spelled.has_text; is_text = c.text.is_text }; carriable = c.carriable }

some_carried : (road : Road) (name bytes : List ℕ) (found other : Option Product) (a b : End) → CarriesBytes road name bytes found a → CarriesBytes road name bytes other b → found ≡ None → other ≡ None
some_carried road name bytes None None a b p q none = refl
some_carried road name bytes None (Some (Carried cert)) a b p q none = absurd (p.none (certificate_of q.given) (carriable_text road bytes q.given q.carriable))
some_carried road name bytes None _ a b p q none = absurd q
some_carried road name bytes _ other a b p q none = cc

some_carries : (road : Road) (name : List ℕ) (given : Option (List ℕ)) (found other : Option Product) (a b : End) → Carries road name given found a → Carries road name given other b → found ≡ None → other ≡ None
some_carries road name None found other a b p q none = q.0
some_carries road name (Some bytes) found other a b p q none = some_carried road name bytes found other a b p q none

some_search : (found other : Option Product) (a b : End) (verb : Verb) (road : Road) (name : List ℕ) (bytes : Option (List ℕ))
    → FollowsRoad verb road name bytes found a → FollowsRoad verb road name bytes other b → found ≡ None → other ≡ None
some_search found other a b Judge road name bytes p q none = q.0
some_search found other a b Check road name bytes p q none = q.0
some_search found other a b Replay road name bytes p q none = q.0
some_search found other a b Mass road name bytes p q none = q.0
some_search found other a b (Carry new) road name bytes p q none = some_carries road name bytes found other a b p q none
some_search None other a b Solve road name bytes p q none = absurd p
some_search (Some f) other a b Solve road name bytes p q none = cc

some_after : (found other : Option Product) (a b : End) (verb : Verb) (made : Result Road End) (name : List ℕ) (bytes : Option (List ℕ))
    → Follows verb made name bytes found a → Follows verb made name bytes other b → found ≡ None → other ≡ None
some_after found other a b verb (Err early) name bytes p q none = q.0
some_after found other a b verb (Ok road) name bytes p q none = some_search found other a b verb road name bytes p q none

none_on_road : (files : Files) (command : RoadCommand) (found other : Option Product) (a b : End) → IsDueOnRoad (Some files) command found a → IsDueOnRoad (Some files) command other b → found ≡ None → other ≡ None
none_on_road files command found other a b p q none =
    some_after found other a b command.verb (road_due p.given.road p.given.table) (name_written command) p.given.other p.follows
    (subst (λ (g : GivenFiles). Follows command.verb (road_due g.road g.table) (name_written command) g.other other b) (given_is files command found other a b p q) q.follows) none

none_for : (files : Files) (command : Command) (other : Option Product) (a b : End) → IsDue (Some files) command None a → IsDue (Some files) command other b → other ≡ None
none_for files (on_road command) other a b p q = none_on_road files command None other a b p q refl
none_for files (trial number) other a b p q = absurd p

-- where an end is due without a search, every end that is due is
pub without_search : (files : Files) (words : List (List ℕ)) (other : Option Product) (a b : End) → Due (Some files) words None a → Due (Some files) words other b → other ≡ None
without_search files words other a b p q =
    let same : q.command ≡ p.command = same_some (command_of words) q.command p.command q.form p.form in
    none_for files p.command other a b p.is_due (subst (λ (c : Command). IsDue (Some files) c other b) same q.is_due)

-- ---- which ends are due

-- without a search no file is written, and the end of a missing file is the one of its status; a search has an answer
abbrev pub IsEndOf : Option Product → End → Type 0
IsEndOf None end = (end.file ≡ None) × (IsTrue (may_be_due end.status) × (end.status ≡ Missing → end ≡ missing_end))
IsEndOf (Some found) end = IsTrue (is_answer end.status)

missing_is : (end : End) → end ≡ missing_end → IsEndOf None end
unfolding may_be_due
missing_is end h = (ap (λ e. e.file) h, (ap (λ e. may_be_due e.status) h, λ e. h))

bytes_status : (road : Road) (bytes : List ℕ) (s : Status) (l : List ℕ) → OfPlanBytes road bytes s l → IsTrue (may_be_due s) × (s ≡ Missing → ⊥)
unfolding may_be_due
bytes_status road bytes PlanRefused l h = (refl, λ e. omega (arith, ap exit_status e))
bytes_status road bytes Done l h = (refl, λ e. omega (arith, ap exit_status e))
bytes_status road bytes PlanBroken l h = (refl, λ e. omega (arith, ap exit_status e))
bytes_status road bytes _ l h = absurd h.judged

cert_status : (road : Road) (bytes : List ℕ) (s : Status) (l : List ℕ) → OfCertBytes road bytes s l → IsTrue (may_be_due s) × (s ≡ Missing → ⊥)
unfolding may_be_due
cert_status road bytes Done l h = (refl, λ e. omega (arith, ap exit_status e))
cert_status road bytes CertRefused l h = (refl, λ e. omega (arith, ap exit_status e))
cert_status road bytes _ l h = absurd h

reported_status : (lines : Road → Certificate → List Line) (road : Road) (bytes : List ℕ) (s : Status) (l : List ℕ) → OfReported lines road bytes s l → IsTrue (may_be_due s) × (s ≡ Missing → ⊥)
unfolding may_be_due
reported_status lines road bytes Done l h = (refl, λ e. omega (arith, ap exit_status e))
reported_status lines road bytes CertRefused l h = (refl, λ e. omega (arith, ap exit_status e))
reported_status lines road bytes _ l h = absurd h

there_is : (end : End) → end.file ≡ None → IsTrue (may_be_due end.status) × (end.status ≡ Missing → ⊥) → IsEndOf None end
there_is end file kind = (file, (kind.0, λ e. absurd (kind.1 e)))

judged_kind : (road : Road) (other : Option (List ℕ)) (end : End) → Judges road other end → IsEndOf None end
judged_kind road None end h = missing_is end h
judged_kind road (Some bytes) end h = there_is end h.1 (bytes_status road bytes end.status end.output h.0)

checked_kind : (road : Road) (other : Option (List ℕ)) (end : End) → Checks road other end → IsEndOf None end
checked_kind road None end h = missing_is end h
checked_kind road (Some bytes) end h = there_is end h.1.1 (cert_status road bytes end.status end.output h.1.0)

reported_kind : (lines : Road → Certificate → List Line) (road : Road) (other : Option (List ℕ)) (end : End) → Reports lines road other end → IsEndOf None end
reported_kind lines road None end h = missing_is end h
reported_kind lines road (Some bytes) end h = there_is end h.1.1 (reported_status lines road bytes end.status end.output h.1.0)

pub found_status : (s : Status) (cost bound : Option Fraction) → HasStatus s cost bound → IsTrue (is_answer s)
found_status Done cost bound h = refl
found_status Gap cost bound h = refl
found_status _ cost bound h = absurd h

no_search : (found : Option Product) (end : End) → found ≡ None → IsEndOf None end → IsEndOf found end
no_search found end none h = subst (λ (f : Option Product). IsEndOf f end) (sym none) h

refusal_is : (line : List ℕ) (end : End) → end ≡ said CertRefused line → IsEndOf None end
unfolding may_be_due
refusal_is line end h = (ap (λ e. e.file) h, (ap (λ e. may_be_due e.status) h, λ e. absurd (omega (arith, ap (λ x. exit_status x.status) h, ap exit_status e))))

carried_kind : (road : Road) (name bytes : List ℕ) (found : Option Product) (end : End) → CarriesBytes road name bytes found end → IsEndOf found end
carried_kind road name bytes None end h = refusal_is (cert_refused_line h.rule h.number) end h.end_is
carried_kind road name bytes (Some (Carried cert)) end h = ap (λ e. is_answer e.status) h.end_is
carried_kind road name bytes _ end h = absurd h

carries_kind : (road : Road) (name : List ℕ) (given : Option (List ℕ)) (found : Option Product) (end : End) → Carries road name given found end → IsEndOf found end
carries_kind road name None found end h = no_search found end h.0 (missing_is end h.1)
carries_kind road name (Some bytes) found end h = carried_kind road name bytes found end h

road_kind : (verb : Verb) (road : Road) (name : List ℕ) (other : Option (List ℕ)) (found : Option Product) (end : End) → FollowsRoad verb road name other found end → IsEndOf found end
road_kind Judge road name other found end h = no_search found end h.0 (judged_kind road other end h.1)
road_kind Check road name other found end h = no_search found end h.0 (checked_kind road other end h.1)
road_kind Replay road name other found end h = no_search found end h.0 (reported_kind cert_lines road other end h.1)
road_kind Mass road name other found end h = no_search found end h.0 (reported_kind cert_mass_lines road other end h.1)
road_kind (Carry new) road name other found end h = carries_kind road name other found end h
road_kind Solve road name other (Some (Searched found)) end h = found_status end.status found.cert.cost found.cert.bound h.status
road_kind Solve road name other _ end h = absurd h

refused_is : (fault : Fault) (end : End) → end ≡ said RoadRefused (road_refused_line fault) → IsEndOf None end
unfolding may_be_due
refused_is fault end h = (ap (λ e. e.file) h, (ap (λ e. may_be_due e.status) h, λ e. absurd (omega (arith, ap (λ x. exit_status x.status) h, ap exit_status e))))

kept_kind : (verb : Verb) (made : Result Road Fault) (name : List ℕ) (other : Option (List ℕ)) (found : Option Product) (end : End) → Follows verb (keeps_rules made) name other found end → IsEndOf found end
kept_kind verb (Err fault) name other found end h = no_search found end h.0 (refused_is fault end h.1)
kept_kind verb (Ok road) name other found end h = road_kind verb road name other found end h

named_kind : (verb : Verb) (bytes : List ℕ) (named : Result (Option (List ℕ)) Fault) (table : Option (List ℕ)) (name : List ℕ) (other : Option (List ℕ)) (found : Option Product) (end : End)
    → Follows verb (keeps_rules named >>= (λ name. is_table_there name table >>= (λ csv. keeps_rules (road_of bytes csv)))) name other found end → IsEndOf found end
named_kind verb bytes (Err fault) table name other found end h = no_search found end h.0 (refused_is fault end h.1)
named_kind verb bytes (Ok None) table name other found end h = kept_kind verb (road_of bytes None) name other found end h
named_kind verb bytes (Ok (Some tabled)) None name other found end h = no_search found end h.0 (missing_is end h.1)
named_kind verb bytes (Ok (Some tabled)) (Some csv) name other found end h = kept_kind verb (road_of bytes (Some csv)) name other found end h

due_kind : (verb : Verb) (road table : Option (List ℕ)) (name : List ℕ) (other : Option (List ℕ)) (found : Option Product) (end : End) → Follows verb (road_due road table) name other found end → IsEndOf found end
unfolding road_due
due_kind verb None table name other found end h = no_search found end h.0 (missing_is end h.1)
due_kind verb (Some bytes) table name other found end h = named_kind verb bytes (table_name_of bytes) table name other found end h

pub end_kind : (told : Option Files) (command : Command) (found : Option Product) (end : End) → IsDue told command found end → IsEndOf found end
end_kind told (on_road command) found end due = due_kind command.verb due.given.road due.given.table (name_written command) due.given.other found end due.follows
end_kind told (trial number) (Some (Searched found)) end due = found_status end.status found.cert.cost found.cert.bound due.status
end_kind told (trial number) _ end due = absurd due
