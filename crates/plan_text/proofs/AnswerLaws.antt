-- What the answer of a plan's reader says of the text.
use Rattle.std.proofs.Common.{◌≡◌, ℕ, Option, Some, None, Result, Ok, Err, MatchResult, IfOk, List, [], ◌∷◌, ◌++◌, drop, refl, sym, ap, subst, ◌∙◌}
use Rattle.std.proofs.lemmas.List.{append-nil}
use Rattle.std.proofs.lemmas.Result.{MatchResult-at_err}
use Rattle.text_parts.specs.Lines.{TextLine, Reading, lines_of, text_of, IsOfSource}
use Rattle.text_parts.proofs.LinesLemmas.{text_of-lines_of}
use Rattle.road_types.specs.declared.road.Road.{Road}
use Rattle.plan_rules.specs.declared.plan.Plan.{Plan}
use Rattle.plan_text.specs.declared.error.TextErr.{TextErr}
use Rattle.plan_text.specs.declared.error.TextErr.TheVariants.{Bad, NoMemory}
use Rattle.plan_text.specs.inside.LineReading.{Gives}
use Rattle.plan_text.specs.Taken.{Took}
use Rattle.plan_text.specs.Misfits.{IfBad}
use Rattle.plan_text.specs.PlanText.{AreApart, StartsWithPlan}
use Rattle.plan_text.specs.Misfits.{anything, nothing, first_misfit, refused_line}
use Rattle.plan_text.specs.PlanText.{plan_text, HasText}
use Rattle.plan_text.specs.inside.PlanReading.{plan_due}
use Rattle.plan_text.specs.PlanText.{IsPlanText}
use Rattle.plan_text.specs.inside.PlanReading.{start_of, with_nothing_left, whole_plan, plan_of_text, GivesPlan}
use Rattle.plan_text.proofs.SpellsLemmas.{ok_parts}
use Rattle.plan_text.proofs.PlanLaws.{plan_spells}
use Rattle.plan_text.proofs.DueLaws.{plan_follows}

pub found : (road : Road) (before after : Reading) (result : Result Plan TextErr) → Gives (plan_due road before) result after → IfOk result (λ plan. Took before after (plan_text road plan))
found road before after (Ok plan) e = ((plan_spells road).sound before after plan e).0
found road before after (Err error) e = tt

pub fits : (road : Road) (before after : Reading) (result : Result Plan TextErr) → Gives (plan_due road before) result after → IfOk result (HasText road)
fits road before after (Ok plan) e = ((plan_spells road).sound before after plan e).1
fits road before after (Err error) e = tt

-- a plan whose text stands at the front is read
starts : (road : Road) (before : Reading) (plan : Plan) (rest : List ℕ) → IsOfSource before → StartsWithPlan road before plan rest → (after : Reading) × (place : ℕ) × (plan_due road before ≡ Ok (plan, after)) × (after.left ≡ lines_of place rest)
starts road before plan rest o s =
    let text = sym (text_of-lines_of o.place (drop o.place before.source)) ∙ ap text_of (sym o.left_is) ∙ s.text_is in
    (plan_spells road).complete before o.place plan rest s.has_text (o.left_is ∙ ap (lines_of o.place) text)

pub only : (road : Road) (before after : Reading) (result : Result Plan TextErr) → IsOfSource before → Gives (plan_due road before) result after → IfBad result (λ _. (plan : Plan) (rest : List ℕ) → ¬ (StartsWithPlan road before plan rest))
only road before after (Ok plan) o e = tt
only road before after (Err (Bad line)) o e = λ plan rest s. let read = starts road before plan rest o s in cc (read.2, e)
only road before after (Err NoMemory) o e = tt

pub exact : (road : Road) (before after : Reading) (result : Result Plan TextErr) → IsOfSource before → Gives (plan_due road before) result after → (plan : Plan) (rest : List ℕ) → StartsWithPlan road before plan rest → IfOk result (λ read. (read ≡ plan) × (text_of after.left ≡ rest))
exact road before after (Ok found) o e plan rest s =
    let read = starts road before plan rest o s in
    let same = ok_parts found plan after read.0 (sym e ∙ read.2) in
    (same.0, ap (λ (r : Reading). text_of r.left) same.1 ∙ ap text_of read.3 ∙ text_of-lines_of read.1 rest)
exact road before after (Err error) o e plan rest s = tt

pub misfit : (road : Road) (before after : Reading) (result : Result Plan TextErr) → Gives (plan_due road before) result after → IfBad result (λ line. first_misfit road before.number before.left ≡ Some line)
misfit road before after (Ok plan) e = tt
misfit road before after (Err (Bad line)) e = MatchResult-at_err _ _ line e ((plan_follows road).follows before anything)
misfit road before after (Err NoMemory) e = tt

-- a text to its last byte
nothing_left : (plan read : Plan) (number : ℕ) (left : List TextLine) → with_nothing_left read number left ≡ Ok plan → (read ≡ plan) × (left ≡ [])
nothing_left plan read number [] e = (cc, refl)
nothing_left plan read number (line ∷ lines) e = cc

whole_found : (road : Road) (bytes : List ℕ) (plan : Plan) (due : Result (Plan × Reading) ℕ) → plan_due road (start_of bytes) ≡ due → whole_plan due ≡ Ok plan → IsPlanText road bytes plan
whole_found road bytes plan (Err line) d e = cc
whole_found road bytes plan (Ok read) d e =
    let left = nothing_left plan read.0 read.1.number read.1.left e in
    let got = (plan_spells road).sound (start_of bytes) read.1 read.0 d in
    let text = sym (text_of-lines_of 0 bytes) ∙ ap text_of (got.0.left_is ∙ ap (λ ls. got.0.lines ++ ls) left.1 ∙ append-nil got.0.lines) ∙ got.0.text_is in
    subst (IsPlanText road bytes) left.0 (record { has_text = got.1; is_text = text })

-- what is given is the plan whose text the bytes are
pub plan_of_text-found : (road : Road) (bytes : List ℕ) (plan : Plan) → plan_of_text road bytes ≡ Ok plan → IsPlanText road bytes plan
unfolding plan_of_text
plan_of_text-found road bytes plan e = whole_found road bytes plan (plan_due road (start_of bytes)) refl e

-- a plan is given for its text
pub plan_of_text-exact : (road : Road) (bytes : List ℕ) (plan : Plan) → IsPlanText road bytes plan → plan_of_text road bytes ≡ Ok plan
unfolding plan_of_text
plan_of_text-exact road bytes plan h =
    let read = (plan_spells road).complete (start_of bytes) 0 plan [] h.has_text (ap (lines_of 0) (h.is_text ∙ sym (append-nil (plan_text road plan)))) in
    ap whole_plan read.2 ∙ ap (with_nothing_left plan read.0.number) read.3

refused_behind : (plan : Plan) (number : ℕ) (left : List TextLine) (refused : Option ℕ) → refused ≡ nothing number left → MatchResult (with_nothing_left plan number left) (λ _. refused ≡ None) (λ line. refused ≡ Some line)
refused_behind plan number [] refused e = e
refused_behind plan number (line ∷ lines) refused e = e

refused_from : (due : Result (Plan × Reading) ℕ) (refused : Option ℕ) → MatchResult due (λ p. refused ≡ nothing p.1.number p.1.left) (λ line. refused ≡ Some line) → MatchResult (whole_plan due) (λ _. refused ≡ None) (λ line. refused ≡ Some line)
refused_from (Err line) refused h = h
refused_from (Ok read) refused h = refused_behind read.0 read.1.number read.1.left refused h

-- the line of a refusal is the first that isn't of the form due or stands behind a whole plan text
pub plan_of_text-line : (road : Road) (bytes : List ℕ) → MatchResult (plan_of_text road bytes) (λ _. refused_line road bytes ≡ None) (λ line. refused_line road bytes ≡ Some line)
unfolding plan_of_text
plan_of_text-line road bytes = refused_from (plan_due road (start_of bytes)) (refused_line road bytes) ((plan_follows road).follows (start_of bytes) nothing)

pub whole_is_found : (road : Road) (bytes : List ℕ) (result : Result Plan TextErr) → GivesPlan (plan_of_text road bytes) result → IfOk result (IsPlanText road bytes)
whole_is_found road bytes (Ok plan) e = plan_of_text-found road bytes plan e
whole_is_found road bytes (Err error) e = tt

pub whole_only : (road : Road) (bytes : List ℕ) (result : Result Plan TextErr) → GivesPlan (plan_of_text road bytes) result → IfBad result (λ _. (plan : Plan) → ¬ (IsPlanText road bytes plan))
whole_only road bytes (Ok plan) e = tt
whole_only road bytes (Err (Bad line)) e = λ plan h. cc (plan_of_text-exact road bytes plan h, e)
whole_only road bytes (Err NoMemory) e = tt

pub whole_line : (road : Road) (bytes : List ℕ) (result : Result Plan TextErr) → GivesPlan (plan_of_text road bytes) result → IfBad result (λ line. refused_line road bytes ≡ Some line)
whole_line road bytes (Ok plan) e = tt
whole_line road bytes (Err (Bad line)) e = MatchResult-at_err _ _ line e (plan_of_text-line road bytes)
whole_line road bytes (Err NoMemory) e = tt

-- no text of a plan is the front of another's
pub are_apart : (road : Road) → AreApart road
are_apart road plan other rest h k e =
    let text = plan_text road other in
    let one = (plan_spells road).complete (start_of text) 0 plan rest h (ap (lines_of 0) (sym e)) in
    let two = (plan_spells road).complete (start_of text) 0 other [] k (ap (lines_of 0) (sym (append-nil text))) in
    let same = ok_parts plan other one.0 two.0 (sym one.2 ∙ two.2) in
    (same.0, sym (text_of-lines_of one.1 rest) ∙ ap text_of (sym one.3) ∙ ap (λ (r : Reading). text_of r.left) same.1 ∙ ap text_of two.3)
