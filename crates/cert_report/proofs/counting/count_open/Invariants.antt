use Rattle.std.proofs.Common.{◌≡◌, ℕ, List, ◌++◌, ◌≤◌, length}
use Rattle.text_parts.specs.Lines.{text_of}
use Rattle.cert_tree.specs.Trees.{BoxTree}
use Rattle.cert_text.specs.NodeText.{IsSpelledTree, most_levels, tree_text}
use Rattle.cert_report.specs.CertReport.{open_leaves}
use Rattle.cert_report.specs.inside.Counting.{count_of, IsCountedTo}
use Rattle.cert_report.proofs.counting.count_open.Given as goal

abbrev pub invariant-loop-leaf : goal.invariant-loop-leaf
invariant-loop-leaf l = record {
  rows : l.reader.rows ≡ l.rows;
  room : l.rows ≤ l.leaf.room;
  few : count_of l.leaves ≤ l.lines.number;
  counts : (tree : BoxTree) (rest : List ℕ) → IsSpelledTree l.rows most_levels tree → text_of l.fn.lines.left ≡ tree_text tree ++ rest
      → IsCountedTo l.rows l.reader.levels l.lines l.leaves rest (open_leaves tree);
}

abbrev pub decreases-loop-leaf : goal.decreases-loop-leaf
decreases-loop-leaf l = length l.lines.left
