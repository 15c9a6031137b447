-- A reader takes one line for each form due, and stops at the first that isn't of its form.
use Rattle.std.proofs.Common.{◌≡◌, ℕ, ℤ, ◌+◌, ◌-◌, zero, suc, cond, Option, Some, None, Result, Ok, Err, MatchResult, List, [], ◌∷◌, ◌++◌, refl, ap, ◌∙◌, codes}
use Rattle.std.specs.Option.{is_some}
use Rattle.std.proofs.lemmas.Result.{MatchResult-weaker}
use Rattle.text_parts.specs.Lines.{TextLine, Reading}
use Rattle.road_types.specs.declared.road.Road.{Road}
use Rattle.road_types.specs.Road.{section_count, segment_count, access_count, block_count}
use Rattle.plan_text.specs.LineForms.{LineForm, short_numbers, line_numbers}
use Rattle.plan_text.specs.inside.LineReading.{Read, then_read, ◌>>=◌, give, taken, behind, next_numbers, numbers_due, repeat_due}
use Rattle.plan_text.specs.LineForms.{den_form, piece_form, opens_form, end_form}
use Rattle.plan_text.specs.inside.PlanReading.{den_due, piece_due, opens_due, stage_due, tables_due, plan_due}
use Rattle.plan_text.specs.Misfits.{times, stage_forms, forms_due, misfit_or}

pub record Follows {A : Type 0} (read : Read A) (forms : List LineForm) : Type 0 where
  pub follows : (before : Reading) (others : ℕ → List TextLine → Option ℕ) → MatchResult (read before) (λ p. misfit_or forms others before.number before.left ≡ others p.1.number p.1.left) (λ line. misfit_or forms others before.number before.left ≡ Some line)

line_follows : (lines : Reading) (o : Option (List ℤ)) (others : ℕ → List TextLine → Option ℕ) → MatchResult (taken o lines) (λ p. cond (is_some o) (others lines.number lines.left) (Some lines.number) ≡ others p.1.number p.1.left) (λ line. cond (is_some o) (others lines.number lines.left) (Some lines.number) ≡ Some line)
line_follows lines None others = refl
line_follows lines (Some numbers) others = refl

next_follows : (form : LineForm) (before : Reading) (left : List TextLine) (others : ℕ → List TextLine → Option ℕ) → MatchResult (next_numbers form left before) (λ p. misfit_or (form ∷ []) others before.number left ≡ others p.1.number p.1.left) (λ line. misfit_or (form ∷ []) others before.number left ≡ Some line)
next_follows form before [] others = refl
next_follows form before (line ∷ lines) others = line_follows (behind before lines) (line_numbers form line) others

pub row_follows : (form : LineForm) → Follows (numbers_due form) (form ∷ [])
unfolding numbers_due
row_follows form = record { follows = λ before others. next_follows form before before.left others }

give_follows : {A : Type 0} (a : A) → Follows (give a) []
give_follows a = record { follows = λ before others. refl }

misfit_append : (forms more : List LineForm) (others : ℕ → List TextLine → Option ℕ) (number : ℕ) (lines : List TextLine) → misfit_or (forms ++ more) others number lines ≡ misfit_or forms (misfit_or more others) number lines
misfit_append [] more others number lines = refl
misfit_append (form ∷ forms) more others number [] = refl
misfit_append (form ∷ forms) more others number (line ∷ lines) =
    ap (λ o. cond (is_some (line_numbers form line)) o (Some (number + 1))) (misfit_append forms more others (number + 1) lines)

joined : {A B : Type 0} (o : Result (A × Reading) ℕ) (next : A → Read B) (forms more : List LineForm) (before : Reading) (others : ℕ → List TextLine → Option ℕ) → ((a : A) → Follows (next a) more) → MatchResult o (λ p. misfit_or forms (misfit_or more others) before.number before.left ≡ misfit_or more others p.1.number p.1.left) (λ line. misfit_or forms (misfit_or more others) before.number before.left ≡ Some line) → MatchResult (then_read o next) (λ p. misfit_or (forms ++ more) others before.number before.left ≡ others p.1.number p.1.left) (λ line. misfit_or (forms ++ more) others before.number before.left ≡ Some line)
joined (Err line) next forms more before others s h = misfit_append forms more others before.number before.left ∙ h
joined (Ok p) next forms more before others s h =
    let both = misfit_append forms more others before.number before.left ∙ h in
    MatchResult-weaker (next p.0 p.1) ((s p.0).follows p.1 others) (λ q e. both ∙ e) (λ line e. both ∙ e)

pub then_follows : {A B : Type 0} (read : Read A) (next : A → Read B) (forms more : List LineForm) → Follows read forms → ((a : A) → Follows (next a) more) → Follows (read >>= next) (forms ++ more)
then_follows read next forms more r s =
    record { follows = λ before others. joined (read before) next forms more before others s (r.follows before (misfit_or more others)) }

made_from : {A B : Type 0} (o : Result (A × Reading) ℕ) (f : A → B) (P : Reading → Type 0) (Q : ℕ → Type 0) → MatchResult o (λ p. P p.1) Q → MatchResult (then_read o (λ a. give (f a))) (λ p. P p.1) Q
made_from (Err line) f P Q h = h
made_from (Ok p) f P Q h = h

made_follows : {A B : Type 0} (read : Read A) (f : A → B) (forms : List LineForm) → Follows read forms → Follows (read >>= (λ a. give (f a))) forms
made_follows read f forms r =
    record {
      follows = λ before others.
          made_from (read before) f (λ lines. misfit_or forms others before.number before.left ≡ others lines.number lines.left) (λ line. misfit_or forms others before.number before.left ≡ Some line) (r.follows before others);
    }

repeat_follows : {A : Type 0} (read : Read A) (forms : List LineForm) → Follows read forms → (n : ℕ) → Follows (repeat_due n read) (times n forms)
repeat_follows read forms r zero = give_follows []
repeat_follows read forms r (suc n) =
    then_follows read (λ first. (repeat_due n read >>= (λ others. give (first ∷ others)))) forms (times n forms) r
    (λ first. made_follows (repeat_due n read) (λ others. first ∷ others) (times n forms) (repeat_follows read forms r n))

den_follows : Follows den_due (den_form ∷ [])
unfolding den_due
den_follows = made_follows (numbers_due den_form) _ (den_form ∷ []) (row_follows den_form)

piece_follows : Follows piece_due (piece_form ∷ [])
unfolding piece_due
piece_follows = made_follows (numbers_due piece_form) _ (piece_form ∷ []) (row_follows piece_form)

opens_follows : (blocks : ℕ) → Follows (opens_due blocks) (opens_form blocks ∷ [])
unfolding opens_due
opens_follows blocks = made_follows (numbers_due (opens_form blocks)) _ (opens_form blocks ∷ []) (row_follows (opens_form blocks))

stage_follows : (road : Road) → Follows (stage_due road) (stage_forms road)
unfolding stage_due
stage_follows road =
    let cut = short_numbers (codes "cut") (section_count road) in
    let fill = short_numbers (codes "fill") (section_count road) in
    let right = short_numbers (codes "right") (section_count road - 1) in
    let left = short_numbers (codes "left") (section_count road - 1) in
    let roads = short_numbers (codes "roads") (access_count road) in
    then_follows (numbers_due cut) _ (cut ∷ []) (fill ∷ right ∷ left ∷ roads ∷ []) (row_follows cut) (λ c.
    then_follows (numbers_due fill) _ (fill ∷ []) (right ∷ left ∷ roads ∷ []) (row_follows fill) (λ f.
    then_follows (numbers_due right) _ (right ∷ []) (left ∷ roads ∷ []) (row_follows right) (λ r.
    then_follows (numbers_due left) _ (left ∷ []) (roads ∷ []) (row_follows left) (λ l.
    made_follows (numbers_due roads) _ (roads ∷ []) (row_follows roads)))))

tables_follow : (road : Road) → Follows (tables_due road) (times road.stages (stage_forms road))
unfolding tables_due
tables_follow road = made_follows (repeat_due road.stages (stage_due road)) _ (times road.stages (stage_forms road)) (repeat_follows (stage_due road) (stage_forms road) (stage_follows road) road.stages)

-- a plan's reader takes one line for each form due
pub plan_follows : (road : Road) → Follows (plan_due road) (forms_due road)
unfolding plan_due
plan_follows road =
    let last = opens_form (block_count road) ∷ end_form ∷ [] in
    let stages = times road.stages (stage_forms road) in
    let pieces = times (segment_count road) (piece_form ∷ []) in
    then_follows den_due _ (den_form ∷ []) (pieces ++ (stages ++ last)) den_follows (λ d.
    then_follows (repeat_due (segment_count road) piece_due) _ pieces (stages ++ last) (repeat_follows piece_due (piece_form ∷ []) piece_follows (segment_count road)) (λ p.
    then_follows (tables_due road) _ stages last (tables_follow road) (λ t.
    then_follows (opens_due (block_count road)) _ (opens_form (block_count road) ∷ []) (end_form ∷ []) (opens_follows (block_count road)) (λ o.
    made_follows (numbers_due end_form) _ (end_form ∷ []) (row_follows end_form)))))
