-- Counting the open leaves of trees that are due, node by node.
use Rattle.std.proofs.Common.{◌≡◌, ℕ, ℤ, ◌+◌, ◌<◌, ◌≤◌, Option, Some, None, Result, Ok, List, [], ◌∷◌, ◌++◌, length, refl, sym, ap, subst, ◌∙◌, arith, length-append}
use Rattle.std.specs.List.{join_with_byte}
use Rattle.std.specs.Result.{IsOkAnd}
use Rattle.std.proofs.lemmas.List.{append-nil}
use Rattle.text_parts.specs.Lines.{TextLine, Reading, text_of}
use Rattle.text_parts.specs.Words.{space}
use Rattle.plan_text.specs.Taken.{Took}
use Rattle.cert_tree.specs.declared.tree.Why.{Why}
use Rattle.cert_tree.specs.declared.tree.Why.TheVariants.{Nodes, Pivots, Width}
use Rattle.cert_tree.specs.Trees.{BoxTree, low, dead, fork}
use Rattle.cert_text.specs.declared.step.Step.{Step}
use Rattle.cert_text.specs.declared.step.Step.TheVariants.{Low, Dead, Split, End}
use Rattle.cert_text.specs.NodeText.{Root, low_leaf, dead_leaf, split_at, low_words, dead_words, split_words, mults_text, root_text, tree_text, IsSpelledTree, most_levels}
use Rattle.cert_text.specs.Steps.{step_of, root_of, trees_behind, forest_text, step_text, AreDue, IsStepAt}
use Rattle.report.specs.declared.findings.OpenLeaves.{OpenLeaves}
use Rattle.cert_report.specs.CertReport.{for_nodes, for_pivots, for_width, leaf_sum, open_leaves}
use Rattle.cert_report.specs.inside.Counting.{count_of, with_cause, with_step, forest_sum, with_trees, IsCountedTo}

-- ---- a node takes at least one line

ends_apart : (a b : List ℕ) → (a ++ (10 ∷ [])) ++ b ≡ [] → ⊥
ends_apart a b e = omega (arith, simp length-append at (ap length e))

ends : (a : List ℕ) → a ++ (10 ∷ []) ≡ [] → ⊥
ends a e = omega (arith, simp length-append at (ap length e))

root_some : (root : Root) → root_text root ≡ [] → ⊥
root_some (low_leaf scale mults cause) e = ends_apart (join_with_byte space (low_words scale cause (length mults))) (mults_text mults) e
root_some (dead_leaf mults) e = ends_apart (join_with_byte space (dead_words (length mults))) (mults_text mults) e
root_some (split_at split) e = ends (join_with_byte space (split_words split)) e

step_some : (step : Step) (mults : List (ℕ × ℤ)) → (step ≡ End → ⊥) → step_text step mults ≡ [] → ⊥
step_some (Low scale cause) mults n e = root_some (low_leaf scale mults cause) e
step_some Dead mults n e = root_some (dead_leaf mults) e
step_some (Split split) mults n e = root_some (split_at split) e
step_some End mults n e = n refl

some_lines : (lines : List TextLine) (text : List ℕ) → text_of lines ≡ text → (text ≡ [] → ⊥) → 0 < length lines
some_lines [] text t n = absurd (n (sym t))
some_lines (line ∷ lines) text t n = omega arith

-- lines are left, and more were given
pub record TakesSome (before after : Reading) : Type 0 where
  pub fewer : length after.left < length before.left
  pub more : before.number < after.number

pub takes_some : (before after : Reading) (step : Step) (mults : List (ℕ × ℤ)) → (step ≡ End → ⊥) → Took before after (step_text step mults) → TakesSome before after
takes_some before after step mults n t =
    let some = some_lines t.lines (step_text step mults) t.text_is (step_some step mults n) in
    let parts : length before.left ≡ length t.lines + length after.left = ap length t.left_is ∙ length-append t.lines after.left in
    record { fewer = omega (arith, some, parts); more = omega (arith, some, t.number_is) }

-- ---- the count of one node

cause_few : (leaves : OpenLeaves) (cause : Option Why) → count_of (with_cause leaves cause) ≤ count_of leaves + 1
cause_few leaves None = omega arith
cause_few leaves (Some Nodes) = omega arith
cause_few leaves (Some Pivots) = omega arith
cause_few leaves (Some Width) = omega arith

pub step_few : (leaves : OpenLeaves) (step : Step) → count_of (with_step leaves step) ≤ count_of leaves + 1
step_few leaves (Low scale cause) = cause_few leaves cause
step_few leaves Dead = omega arith
step_few leaves (Split split) = omega arith
step_few leaves End = omega arith

same_leaves : (a b : OpenLeaves) → a.nodes ≡ b.nodes → a.pivots ≡ b.pivots → a.width ≡ b.width → a ≡ b
same_leaves a b p q r = λ i. record { nodes = p i; pivots = q i; width = r i }

moved : (a b c : ℕ) → (a + b) + c ≡ a + (b + c)
moved a b c = omega arith

-- a node's leaf and the leaves of the trees behind it are those of the trees
step_counts : (leaves : OpenLeaves) (tree : BoxTree) (trees : List BoxTree) → with_trees (with_step leaves (step_of (root_of tree))) (trees_behind tree trees) ≡ with_trees leaves (tree ∷ trees)
step_counts leaves (low scale mults cause) trees =
    same_leaves (with_trees (with_cause leaves cause) trees) (with_trees leaves (low scale mults cause ∷ trees))
    (moved leaves.nodes (for_nodes cause) (forest_sum for_nodes trees))
    (moved leaves.pivots (for_pivots cause) (forest_sum for_pivots trees))
    (moved leaves.width (for_width cause) (forest_sum for_width trees))
step_counts leaves (dead mults) trees =
    same_leaves (with_trees leaves trees) (with_trees leaves (dead mults ∷ trees)) (omega arith) (omega arith) (omega arith)
step_counts leaves (fork split first second) trees =
    same_leaves (with_trees leaves (first ∷ second ∷ trees)) (with_trees leaves (fork split first second ∷ trees))
    (ap (λ n. leaves.nodes + n) (sym (moved (leaf_sum for_nodes first) (leaf_sum for_nodes second) (forest_sum for_nodes trees))))
    (ap (λ n. leaves.pivots + n) (sym (moved (leaf_sum for_pivots first) (leaf_sum for_pivots second) (forest_sum for_pivots trees))))
    (ap (λ n. leaves.width + n) (sym (moved (leaf_sum for_width first) (leaf_sum for_width second) (forest_sum for_width trees))))

-- ---- the whole count

-- what `next` gives for all trees whose texts come next
abbrev pub IsExact : ℕ → List ℕ → Reading → Result Step ℕ → List (ℕ × ℤ) → List (ℕ × ℤ) → List ℕ → Reading → Type 0
IsExact rows levels before result last mults left after =
    (trees : List BoxTree) (rest : List ℕ) → AreDue rows levels trees → text_of before.left ≡ forest_text trees ++ rest → IsOkAnd result (λ step. IsStepAt rows trees rest step last mults left after)

on_trees : (rows : ℕ) (left : List ℕ) (after : Reading) (step : Step) (last mults : List (ℕ × ℤ)) (leaves : OpenLeaves) (rest : List ℕ) (whole : OpenLeaves) (trees : List BoxTree) → (step ≡ End → ⊥)
    → IsStepAt rows trees rest step last mults left after → with_trees leaves trees ≡ whole → IsCountedTo rows left after (with_step leaves step) rest whole
on_trees rows left after step last mults leaves rest whole [] n at e = absurd (n at)
on_trees rows left after step last mults leaves rest whole (tree ∷ trees) n at e = record {
  trees = trees_behind tree trees;
  are_due = at.are_due;
  text_is = at.text_is;
  whole_is = ap (λ s. with_trees (with_step leaves s) (trees_behind tree trees)) at.step_is ∙ step_counts leaves tree trees ∙ e;
}

-- a node was counted, and the count goes on
pub counts_on : (rows : ℕ) (levels : List ℕ) (before after : Reading) (step : Step) (last mults : List (ℕ × ℤ)) (left : List ℕ) (leaves now : OpenLeaves) → (step ≡ End → ⊥)
    → IsExact rows levels before (Ok step) last mults left after → now ≡ with_step leaves step
    → (rest : List ℕ) (whole : OpenLeaves) → IsCountedTo rows levels before leaves rest whole → IsCountedTo rows left after now rest whole
counts_on rows levels before after step last mults left leaves now n exact e rest whole c =
    let at = exact c.trees rest c.are_due c.text_is in
    subst (λ l. IsCountedTo rows left after l rest whole) (sym e) (on_trees rows left after step last mults leaves rest whole c.trees n at c.whole_is)

abbrev pub no_leaves : OpenLeaves
no_leaves = record { nodes = 0; pivots = 0; width = 0 }

-- the count begins with the whole tree
pub counts_start : (rows : ℕ) (lines : Reading) (tree : BoxTree) (rest : List ℕ) → IsSpelledTree rows most_levels tree → text_of lines.left ≡ tree_text tree ++ rest
    → IsCountedTo rows (most_levels ∷ []) lines no_leaves rest (open_leaves tree)
counts_start rows lines tree rest h e = record {
  trees = tree ∷ [];
  are_due = (h, tt);
  text_is = e ∙ ap (λ t. t ++ rest) (sym (append-nil (tree_text tree)));
  whole_is = same_leaves (with_trees no_leaves (tree ∷ [])) (open_leaves tree) (omega arith) (omega arith) (omega arith);
}
