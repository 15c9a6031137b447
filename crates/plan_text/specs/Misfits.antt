-- The forms that are due for the lines of a road's plan, and the first line that isn't of the form due at its place: the line for
-- which a text is refused.
use Rattle.std.specs.Prelude.{ℕ, ◌+◌, ◌-◌, zero, suc, List, [], ◌∷◌, ◌++◌, Option, Some, None, is_some, if◌then◌else◌, codes, Result, Ok, Err}
use Rattle.text_parts.specs.Lines.{TextLine, lines_of}
use Rattle.road_types.specs.declared.road.Road.{Road}
use Rattle.road_types.specs.Road.{section_count, segment_count, access_count, block_count}
use Rattle.plan_text.specs.declared.error.TextErr.{TextErr}
use Rattle.plan_text.specs.declared.error.TextErr.TheVariants.{Bad, NoMemory}
use Rattle.plan_text.specs.LineForms.{LineForm, short_numbers, line_numbers, den_form, piece_form, opens_form, end_form}

-- these forms so many times
abbrev pub times : ℕ → List LineForm → List LineForm
times zero forms = []
times (suc n) forms = forms ++ times n forms

-- the forms of the five lines of a stage
abbrev pub stage_forms : Road → List LineForm
stage_forms road =
    short_numbers (codes "cut") (section_count road) ∷ short_numbers (codes "fill") (section_count road) ∷ short_numbers (codes "right") (section_count road - 1) ∷ short_numbers (codes "left") (section_count road - 1) ∷ short_numbers (codes "roads") (access_count road) ∷ []

-- the forms due, line by line
abbrev pub forms_due : Road → List LineForm
forms_due road =
    den_form ∷ (times (segment_count road) (piece_form ∷ []) ++ (times road.stages (stage_forms road) ++ (opens_form (block_count road) ∷ end_form ∷ [])))

-- the number of the first line that isn't of the form due at its place, or of the missing line where the text ends too early;
-- where so many lines are of their forms, what is said of those behind them
abbrev pub misfit_or : List LineForm → (ℕ → List TextLine → Option ℕ) → ℕ → List TextLine → Option ℕ
misfit_or [] behind number lines = behind number lines
misfit_or (form ∷ forms) behind number [] = Some (number + 1)
misfit_or (form ∷ forms) behind number (line ∷ lines) =
    if is_some (line_numbers form line) then misfit_or forms behind (number + 1) lines else Some (number + 1)

-- any lines may stand behind the forms
abbrev pub anything : ℕ → List TextLine → Option ℕ
anything number lines = None

-- no line may stand behind the forms
abbrev pub nothing : ℕ → List TextLine → Option ℕ
nothing number [] = None
nothing number (line ∷ lines) = Some (number + 1)

-- the first line behind this number that isn't of the form due for the road's plan
abbrev pub first_misfit : Road → ℕ → List TextLine → Option ℕ
first_misfit road number lines = misfit_or (forms_due road) anything number lines

-- the first line of the bytes that isn't of the form due, or stands behind a whole plan text
abbrev pub refused_line : Road → List ℕ → Option ℕ
refused_line road bytes = misfit_or (forms_due road) nothing 0 (lines_of 0 bytes)

-- of the line that a text was refused for
abbrev pub IfBad : {A : Type 0} → Result A TextErr → (ℕ → Type 0) → Type 0
IfBad (Ok value) P = Unit {0}
IfBad (Err (Bad line)) P = P line
IfBad (Err NoMemory) P = Unit {0}
