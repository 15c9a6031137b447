-- Counting open leaves in trees that are due, node by node.
use Rattle.std.specs.Prelude.{◌≡◌, ℕ, ◌+◌, Bool, true, false, Result, Ok, Err, Option, List, [], ◌∷◌, ◌++◌}
use Rattle.text_parts.specs.Lines.{Reading, text_of}
use Rattle.plan_text.specs.declared.error.TextErr.{TextErr}
use Rattle.plan_text.specs.declared.error.TextErr.TheVariants.{Bad, NoMemory}
use Rattle.cert_tree.specs.declared.tree.Why.{Why}
use Rattle.cert_tree.specs.Trees.{BoxTree}
use Rattle.cert_text.specs.declared.step.Step.{Step}
use Rattle.cert_text.specs.declared.step.Step.TheVariants.{Low, Dead, Split, End}
use Rattle.cert_text.specs.Steps.{AreDue, forest_text}
use Rattle.report.specs.declared.findings.OpenLeaves.{OpenLeaves}
use Rattle.cert_report.specs.CertReport.{for_nodes, for_pivots, for_width, leaf_sum}

-- how many leaves are counted
abbrev pub count_of : OpenLeaves → ℕ
count_of leaves = leaves.nodes + leaves.pivots + leaves.width

-- the leaves with one of this cause
abbrev pub with_cause : OpenLeaves → Option Why → OpenLeaves
with_cause leaves cause = record { nodes = leaves.nodes + for_nodes cause; pivots = leaves.pivots + for_pivots cause; width = leaves.width + for_width cause }

-- the leaves with the one of a step
abbrev pub with_step : OpenLeaves → Step → OpenLeaves
with_step leaves (Low scale cause) = with_cause leaves cause
with_step leaves Dead = leaves
with_step leaves (Split split) = leaves
with_step leaves End = leaves

-- the sum over the low leaves of trees
abbrev pub forest_sum : (Option Why → ℕ) → List BoxTree → ℕ
forest_sum count [] = 0
forest_sum count (tree ∷ trees) = leaf_sum count tree + forest_sum count trees

-- the leaves with those of trees
abbrev pub with_trees : OpenLeaves → List BoxTree → OpenLeaves
with_trees leaves trees = record {
  nodes = leaves.nodes + forest_sum for_nodes trees;
  pivots = leaves.pivots + forest_sum for_pivots trees;
  width = leaves.width + forest_sum for_width trees;
}

-- the leaves with those of a tree
abbrev pub with_tree : OpenLeaves → BoxTree → OpenLeaves
with_tree leaves tree = record {
  nodes = leaves.nodes + leaf_sum for_nodes tree;
  pivots = leaves.pivots + leaf_sum for_pivots tree;
  width = leaves.width + leaf_sum for_width tree;
}

-- these trees are due on these levels, their texts come next, and with their leaves this is the whole count
pub record IsCountedTo (rows : ℕ) (levels : List ℕ) (lines : Reading) (leaves : OpenLeaves) (rest : List ℕ) (whole : OpenLeaves) : Type 0 where
  pub trees : List BoxTree
  pub are_due : AreDue rows levels trees
  pub text_is : text_of lines.left ≡ forest_text trees ++ rest
  pub whole_is : with_trees leaves trees ≡ whole

-- a node was counted, and the count goes on; or no tree is due any more, and the count is whole
abbrev pub CountsOn : ℕ → OpenLeaves → Result Bool TextErr → List ℕ → Reading → OpenLeaves → List ℕ → Type 0
CountsOn rows whole (Ok true) levels lines leaves rest = IsCountedTo rows levels lines leaves rest whole
CountsOn rows whole (Ok false) levels lines leaves rest = leaves ≡ whole
CountsOn rows whole (Err error) levels lines leaves rest = ⊥

-- the count is this; after want of memory nothing is said
abbrev pub IsWholeCount : Result OpenLeaves TextErr → OpenLeaves → Type 0
IsWholeCount (Ok leaves) whole = leaves ≡ whole
IsWholeCount (Err (Bad line)) whole = ⊥
IsWholeCount (Err NoMemory) whole = Unit {0}
