-- One step of a reader of nodes.
use Rattle.std.specs.Prelude.{ℕ, ◌≡◌, ◌-◌, List, [], ◌∷◌, Result, Ok, Err, ℤ}
use Rattle.text_parts.specs.Lines.{Reading}
use Rattle.cert_text.specs.declared.step.Step.{Step}
use Rattle.cert_text.specs.declared.step.Step.TheVariants.{End}
use Rattle.cert_text.specs.NodeText.{Root}
use Rattle.cert_text.specs.Steps.{step_of, mults_after, levels_after}
use Rattle.cert_text.specs.inside.NodeReading.{root_on}

-- a node was read: the step says what stands there, and the buffer has its multipliers if it is a leaf
pub record IsNodeRead (due : Result (Root × Reading) ℕ) (after : Reading) (step : Step) (last mults : List (ℕ × ℤ)) : Type 0 where
  pub root : Root
  pub read : due ≡ Ok (root, after)
  pub step_is : step ≡ step_of root
  pub mults_is : mults ≡ mults_after root last

abbrev pub ReadsNode : Result (Root × Reading) ℕ → Result Step ℕ → Reading → List (ℕ × ℤ) → List (ℕ × ℤ) → Type 0
ReadsNode due (Ok step) after last mults = IsNodeRead due after step last mults
ReadsNode due (Err line) after last mults = due ≡ Err line

-- a node was read on one of so many levels, and the levels that are left behind it
pub record TakesNode (rows level : ℕ) (others : List ℕ) (before after : Reading) (step : Step) (last mults : List (ℕ × ℤ)) (levels : List ℕ) : Type 0 where
  pub root : Root
  pub read : root_on rows level before ≡ Ok (root, after)
  pub step_is : step ≡ step_of root
  pub mults_is : mults ≡ mults_after root last
  pub levels_is : levels ≡ levels_after step (level - 1) others

-- no tree is due, and nothing changes
pub record TakesNothing (before after : Reading) (step : Step) (last mults : List (ℕ × ℤ)) (levels : List ℕ) : Type 0 where
  pub step_is : step ≡ End
  pub lines_are : after ≡ before
  pub mults_is : mults ≡ last
  pub levels_is : levels ≡ []

-- the next node of the trees that are due on these levels
abbrev pub Steps : ℕ → List ℕ → Reading → Result Step ℕ → Reading → List (ℕ × ℤ) → List (ℕ × ℤ) → List ℕ → Type 0
Steps rows [] before (Ok step) after last mults levels = TakesNothing before after step last mults levels
Steps rows [] before (Err line) after last mults levels = ⊥
Steps rows (level ∷ others) before (Ok step) after last mults levels =
    TakesNode rows level others before after step last mults levels
Steps rows (level ∷ others) before (Err line) after last mults levels = root_on rows level before ≡ Err line
