-- Why bytes are refused as a certificate: the first broken rule, C1 to C9, with its line. The text comes first, then the plan and its
-- cost, then the nodes of the tree in the order of the text, and last whether a bound stands. Each relation gives the first refusal, or
-- none where nothing is refused. Without a bound a low leaf is refused in the tree for its signs alone: the last rule refuses the bound that is missing.
use Rattle.std.specs.Prelude.{ℕ, ◌≡◌, ◌+◌, ◌-◌, ◌<◌, ◌≤◌, List, [], ◌∷◌, ◌++◌, length, Bool, true, false, ◌&&◌, ◌⊎◌, Option, Some, None, if◌then◌else◌, Result, Ok, Err, ℤ, pos, ◌*ℤ◌, int_lt, codes}
use Rattle.numbers.specs.Fractions.{Fraction}
use Rattle.programs.specs.Programs.{Program, row_at}
use Rattle.term_store.specs.declared.side.Side.{Side}
use Rattle.term_store.specs.declared.side.Side.TheVariants.{Equal, AtLeast}
use Rattle.text_parts.specs.Lines.{TextLine, lines_of, text_of}
use Rattle.road_types.specs.declared.road.Road.{Road}
use Rattle.plan_rules.specs.Rules.{IsAdmissible}
use Rattle.milp_builder.specs.Boxes.{root_box}
use Rattle.milp_builder.specs.BoxPrograms.{box_program}
use Rattle.milp_builder.specs.Parts.{IsSplitOf, first_part, second_part}
use Rattle.milp_builder.specs.declared.boxes.BoxRange.{BoxRange}
use Rattle.cert_tree.specs.Trees.{BoxTree, low, dead, fork}
use Rattle.cert_tree.specs.Soundness.{told_value, has_low}
use Rattle.cert_text.specs.declared.heading.PricedPlan.{PricedPlan}
use Rattle.cert_text.specs.NodeText.{spelled_words}
use Rattle.cert_text.specs.CertText.{Certificate, IsCertText, planned_text, bound_words}
use Rattle.cert_text.specs.Misfits.{refused_line}
use Rattle.cert_checker.specs.declared.refusal.CertRule.{CertRule}
use Rattle.cert_checker.specs.declared.refusal.CertRule.TheVariants.{C1, C2, C3, C4, C5, C6, C7, C8, C9}
use Rattle.cert_checker.specs.declared.refusal.Refusal.{Refusal}
use Rattle.cert_checker.specs.declared.refusal.CheckErr.{CheckErr}
use Rattle.cert_checker.specs.declared.refusal.CheckErr.TheVariants.{Refused, NoMemory}
use Rattle.cert_checker.specs.declared.refusal.Checked.{Checked}
use Rattle.cert_text.specs.Validity.{IsCostOf, longest_text, IsValidText}
use Rattle.cert_checker.specs.Answered.{IsAnswerOf}

abbrev pub refused : CertRule → ℕ → Option Refusal
refused rule line = Some (record { rule = rule; line = line })

-- the first of two refusals, either of which may be missing
abbrev pub first_of : Option Refusal → Option Refusal → Option Refusal
first_of None second = second
first_of (Some refusal) second = Some refusal

-- ---- a leaf

abbrev pub is_at_least : Side → Bool
is_at_least AtLeast = true
is_at_least Equal = false

-- a multiplier below 0 on a row that asks for at least its right side
unfoldable pub has_wrong_sign : Program → ℕ × ℤ → Bool
has_wrong_sign program mult = is_at_least (row_at program mult.0).side && int_lt mult.1 (pos 0)

-- the first multiplier with a wrong sign, of those on the lines behind this one
abbrev pub sign_refusal : Program → ℕ → List (ℕ × ℤ) → Option Refusal
sign_refusal program line [] = None
sign_refusal program line (mult ∷ mults) =
    if has_wrong_sign program mult then refused C6 (line + 1) else sign_refusal program (line + 1) mults

-- a value whose quotient by the scale is below the stated bound
abbrev pub bound_refusal : Option Fraction → ℕ → ℤ → ℤ → Option Refusal
bound_refusal None line value scale = None
bound_refusal (Some bound) line value scale =
    if int_lt (value *ℤ bound.den) (bound.num *ℤ scale) then refused C7 line else None

-- a dead value that isn't above 0
abbrev pub value_refusal : ℕ → ℤ → Option Refusal
value_refusal line value = if int_lt (pos 0) value then None else refused C8 line

-- a low leaf that begins on this line, by the program of its box
unfoldable pub low_refusal : Program → Option Fraction → ℕ → ℤ → List (ℕ × ℤ) → Option Refusal
low_refusal program bound line scale mults =
    first_of (sign_refusal program line mults) (bound_refusal bound line (told_value program scale mults) scale)

-- a dead leaf that begins on this line, by the program of its box
unfoldable pub dead_refusal : Program → ℕ → List (ℕ × ℤ) → Option Refusal
dead_refusal program line mults = first_of (sign_refusal program line mults) (value_refusal line (told_value program (pos 0) mults))

-- ---- a tree

-- the number of lines of a tree
abbrev pub line_count : BoxTree → ℕ
line_count (low scale mults cause) = 1 + length mults
line_count (dead mults) = 1 + length mults
line_count (fork split first second) = 1 + (line_count first + line_count second)

-- what was found before, or else what is found next
abbrev pub FindsNext : Option Refusal → Type 0 → Option Refusal → Type 0
FindsNext None next found = next
FindsNext (Some refusal) next found = found ≡ Some refusal

-- the first refusal in a tree on this box that begins on this line, or none
abbrev pub IsTreeRefusal : Road → Option Fraction → BoxTree → BoxRange → ℕ → Option Refusal → Type 0
IsTreeRefusal road bound (low scale mults cause) box line found = found ≡ low_refusal (box_program road box) bound line scale mults
IsTreeRefusal road bound (dead mults) box line found = found ≡ dead_refusal (box_program road box) line mults
IsTreeRefusal road bound (fork split first second) box line found =
    ((¬ IsSplitOf road box split) × (found ≡ refused C5 line))
    ⊎ (IsSplitOf road box split
    × ((sooner : Option Refusal)
    × (IsTreeRefusal road bound first (first_part box split) (line + 1) sooner
    × FindsNext sooner (IsTreeRefusal road bound second (second_part box split) (line + 1 + line_count first) found) found)))

-- ---- a certificate

-- the refusal of a plan that begins on line 2 and whose cost stands on this line, or none
abbrev pub IsPlanRefusal : Road → ℕ → Option PricedPlan → Option Refusal → Type 0
IsPlanRefusal road line None found = found ≡ None
IsPlanRefusal road line (Some priced) found =
    ((¬ IsAdmissible road priced.plan) × (found ≡ refused C3 2))
    ⊎ (IsAdmissible road priced.plan × ((¬ IsCostOf road priced) × (found ≡ refused C4 line)))
    ⊎ (IsAdmissible road priced.plan × (IsCostOf road priced × (found ≡ None)))

-- a bound on this line that stands without a low leaf, or that doesn't stand with one
abbrev pub last_refusal : Option Fraction → Bool → ℕ → Option Refusal
last_refusal None true line = refused C9 line
last_refusal None false line = None
last_refusal (Some bound) true line = None
last_refusal (Some bound) false line = refused C9 line

-- the first refusal of a certificate whose bound stands on this line, or none
pub record IsCertRefusal (road : Road) (cert : Certificate) (line : ℕ) (found : Option Refusal) : Type 0 where
  pub plan : Option Refusal
  pub tree : Option Refusal
  pub is_plan : IsPlanRefusal road (line - 1) cert.planned plan
  pub is_tree : IsTreeRefusal road cert.bound cert.tree (root_box road) (line + 1) tree
  pub found_is : found ≡ first_of plan (first_of tree (last_refusal cert.bound (has_low cert.tree) line))

-- so many first lines of the bytes make this text
pub record EndsAtLine (bytes text : List ℕ) (line : ℕ) : Type 0 where
  pub lines : List TextLine
  pub others : List TextLine
  pub lines_are : lines_of 0 bytes ≡ lines ++ others
  pub text_is : text_of lines ≡ text
  pub count : line ≡ length lines

-- the text before the tree
abbrev pub stated_text : Road → Certificate → List ℕ
stated_text road cert =
    spelled_words (codes "certificate" ∷ []) ++ (planned_text road cert.planned ++ spelled_words (bound_words cert.bound))

-- the bytes are the text of a certificate, which is refused so or isn't, by what refuses a certificate whose bound stands on a line
pub record IsTextRefusalBy (refuses : Certificate → ℕ → Option Refusal → Type 0) (road : Road) (bytes : List ℕ) (found : Option Refusal) : Type 0 where
  pub cert : Certificate
  pub text : IsCertText road bytes cert
  pub line : ℕ
  pub bound_line : EndsAtLine bytes (stated_text road cert) line
  pub refusal : refuses cert line found

-- the first refusal of the bytes, or none, by what refuses a certificate
abbrev pub IsFirstRefusalBy : (Certificate → ℕ → Option Refusal → Type 0) → Road → List ℕ → Option Refusal → Type 0
IsFirstRefusalBy refuses road bytes found =
    ((longest_text < length bytes) × (found ≡ refused C1 0))
    ⊎ ((length bytes ≤ longest_text) × ((line : ℕ) × ((refused_line road bytes ≡ Some line) × (found ≡ refused C2 line))))
    ⊎ ((length bytes ≤ longest_text) × IsTextRefusalBy refuses road bytes found)

-- the first refusal of the bytes, or none
abbrev pub IsFirstRefusal : Road → List ℕ → Option Refusal → Type 0
IsFirstRefusal road bytes found = IsFirstRefusalBy (IsCertRefusal road) road bytes found

-- an answer accepts the text of a valid certificate with what it states, or refuses the bytes by their first refusal; after want of
-- memory nothing is said
abbrev pub Answers : Road → List ℕ → Result Checked CheckErr → Type 0
Answers road bytes (Ok checked) = IsAnswerOf road bytes checked
Answers road bytes (Err (Refused rule line)) = IsFirstRefusal road bytes (refused rule line)
Answers road bytes (Err NoMemory) = Unit {0}

-- the bytes are the text of no valid certificate
abbrev pub IsNoValidText : Road → List ℕ → Type 0
IsNoValidText road bytes = (cert : Certificate) → IsValidText road bytes cert → ⊥

-- what is refused is the text of no valid certificate
abbrev pub RefusesRightly : Road → List ℕ → Result Checked CheckErr → Type 0
RefusesRightly road bytes (Ok checked) = Unit {0}
RefusesRightly road bytes (Err (Refused rule line)) = IsNoValidText road bytes
RefusesRightly road bytes (Err NoMemory) = Unit {0}

-- the first refusal is one
abbrev pub HasOneRefusal : Road → List ℕ → Type 0
HasOneRefusal road bytes = (a b : Option Refusal) → IsFirstRefusal road bytes a → IsFirstRefusal road bytes b → a ≡ b
