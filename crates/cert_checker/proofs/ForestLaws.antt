-- Reading trees node by node.
use Rattle.std.proofs.Common.{◌≡◌, ◌⊎◌, inl, inr, ℕ, zero, suc, ◌+◌, ◌≤◌, Bool, true, false, cond, None, Result, Ok, Err, List, [], ◌∷◌, refl, sym, ap, ◌∙◌}
use Rattle.text_parts.specs.Lines.{TextLine, Reading}
use Rattle.plan_text.specs.inside.LineReading.{Read, then_read, ◌>>=◌, give, taken, behind}
use Rattle.plan_text.proofs.SpellsLemmas.{then_ok, ok_parts}
use Rattle.milp_builder.specs.declared.boxes.Split.{Split}
use Rattle.cert_tree.specs.Trees.{BoxTree, low, dead, fork}
use Rattle.cert_text.specs.NodeText.{Root, low_leaf, dead_leaf, split_at, IsRoot}
use Rattle.cert_text.specs.WordForms.{line_value}
use Rattle.cert_text.specs.inside.NodeReading.{next_of, line_due, no_form, root_due, root_on, tree_behind, tree_due}
use Rattle.cert_text.proofs.LineLaws.{nothing_read}
use Rattle.cert_text.proofs.TreeLaws.{root_spells}
use Rattle.cert_text.proofs.CertLaws.{few_rows}
use Rattle.cert_checker.specs.inside.Walking.{forest_due}

pub then_err : {A B : Type 0} (o : Result (A × Reading) ℕ) (next : A → Read B) (line : ℕ) → then_read o next ≡ Err line → (o ≡ Err line) ⊎ ((a : A) × (between : Reading) × (o ≡ Ok (a, between)) × (next a between ≡ Err line))
then_err {A} {B} (Err n) next line e = inl (let same : n ≡ line = cc in ap (λ k. Err k) same)
then_err (Ok read) next line e = inr (read.0, read.1, refl, e)

pub root_on_fits : (rows level : ℕ) (before after : Reading) (root : Root) → rows ≤ 600 → root_on rows level before ≡ Ok (root, after) → IsRoot rows root
root_on_fits rows zero before after root few e = absurd (nothing_read before after root e)
root_on_fits rows (suc level) before after root few e = ((root_spells rows (few_rows rows few)).sound before after root e).1

-- ---- the trees that are due

by_end : {A B : Type 0} (ended : Bool) (lines : Reading) (n : ℕ) → taken {A = A} (cond ended None None) lines ≡ Err n → taken {A = B} (cond ended None None) lines ≡ Err n
by_end true lines n e = let same : lines.number ≡ n = cc in ap (λ k. Err k) same
by_end false lines n e = let same : lines.number ≡ n = cc in ap (λ k. Err k) same

none_next : (left : List TextLine) (lines : Reading) (n : ℕ) → next_of (no_form {A = Root}) left lines ≡ Err n → next_of (no_form {A = BoxTree}) left lines ≡ Err n
unfolding line_value
none_next [] lines n e = let same : lines.number + 1 ≡ n = cc in ap (λ k. Err k) same
none_next (line ∷ others) lines n e = by_end line.ended (behind lines others) n e

-- where no node is read no tree is
pub tree_refused : (rows level : ℕ) (lines : Reading) (n : ℕ) → root_on rows level lines ≡ Err n → tree_due rows level lines ≡ Err n
unfolding line_due
tree_refused rows zero lines n e = none_next lines.left lines n e
tree_refused rows (suc level) lines n e = ap (λ o. then_read o (tree_behind (tree_due rows level))) e

pub forest_refused : (rows level : ℕ) (others : List ℕ) (lines : Reading) (n : ℕ) → tree_due rows level lines ≡ Err n → forest_due rows (level ∷ others) lines ≡ Err n
forest_refused rows level others lines n e = ap (λ o. then_read o (λ tree. (forest_due rows others >>= (λ trees. give (tree ∷ trees))))) e

pub forest_refused_later : (rows level : ℕ) (others : List ℕ) (lines between : Reading) (tree : BoxTree) (n : ℕ) → tree_due rows level lines ≡ Ok (tree, between) → forest_due rows others between ≡ Err n → forest_due rows (level ∷ others) lines ≡ Err n
forest_refused_later rows level others lines between tree n e f =
    ap (λ o. then_read o (λ tree. (forest_due rows others >>= (λ trees. give (tree ∷ trees))))) e
    ∙ ap (λ o. then_read o (λ trees. give (tree ∷ trees))) f

pub forest_more : (rows level : ℕ) (others : List ℕ) (lines between after : Reading) (tree : BoxTree) (trees : List BoxTree) → tree_due rows level lines ≡ Ok (tree, between) → forest_due rows others between ≡ Ok (trees, after) → forest_due rows (level ∷ others) lines ≡ Ok (tree ∷ trees, after)
forest_more rows level others lines between after tree trees e f =
    ap (λ o. then_read o (λ tree. (forest_due rows others >>= (λ trees. give (tree ∷ trees))))) e
    ∙ ap (λ o. then_read o (λ trees. give (tree ∷ trees))) f

-- the first of the trees that are due, and the others
pub forest_parts : (rows level : ℕ) (others : List ℕ) (lines after : Reading) (trees : List BoxTree) → forest_due rows (level ∷ others) lines ≡ Ok (trees, after) → (tree : BoxTree) × (later : List BoxTree) × (between : Reading) × (trees ≡ tree ∷ later) × (tree_due rows level lines ≡ Ok (tree, between)) × (forest_due rows others between ≡ Ok (later, after))
forest_parts rows level others lines after trees e =
    let first = then_ok (tree_due rows level lines) (λ tree. (forest_due rows others >>= (λ trees. give (tree ∷ trees)))) trees after e in
    let rest = then_ok (forest_due rows others first.1) (λ trees. give (first.0 ∷ trees)) trees after first.3 in
    let parts = ok_parts (first.0 ∷ rest.0) trees rest.1 after rest.3 in
    (first.0, rest.0, first.1, sym parts.0, first.2, rest.2 ∙ ap (λ r. Ok (rest.0, r)) parts.1)

-- a tree by its root
pub tree_of_root : (rows level : ℕ) (before between : Reading) (root : Root) → root_due rows before ≡ Ok (root, between) → tree_due rows (suc level) before ≡ tree_behind (tree_due rows level) root between
tree_of_root rows level before between root e = ap (λ o. then_read o (tree_behind (tree_due rows level))) e

pub tree_of_fork : (rows level : ℕ) (split : Split) (before a b c : Reading) (first second : BoxTree) → root_due rows before ≡ Ok (split_at split, a) → tree_due rows level a ≡ Ok (first, b) → tree_due rows level b ≡ Ok (second, c) → tree_due rows (suc level) before ≡ Ok (fork split first second, c)
tree_of_fork rows level split before a b c first second r p q =
    tree_of_root rows level before a (split_at split) r
    ∙ ap (λ o. then_read o (λ first. (tree_due rows level >>= (λ second. give (fork split first second))))) p
    ∙ ap (λ o. then_read o (λ second. give (fork split first second))) q

fork_refused : (rows level : ℕ) (split : Split) (before a : Reading) (n : ℕ) → root_due rows before ≡ Ok (split_at split, a) → tree_due rows level a ≡ Err n → tree_due rows (suc level) before ≡ Err n
fork_refused rows level split before a n r p =
    tree_of_root rows level before a (split_at split) r
    ∙ ap (λ o. then_read o (λ first. (tree_due rows level >>= (λ second. give (fork split first second))))) p

fork_refused_later : (rows level : ℕ) (split : Split) (before a b : Reading) (first : BoxTree) (n : ℕ) → root_due rows before ≡ Ok (split_at split, a) → tree_due rows level a ≡ Ok (first, b) → tree_due rows level b ≡ Err n → tree_due rows (suc level) before ≡ Err n
fork_refused_later rows level split before a b first n r p q =
    tree_of_root rows level before a (split_at split) r
    ∙ ap (λ o. then_read o (λ first. (tree_due rows level >>= (λ second. give (fork split first second))))) p
    ∙ ap (λ o. then_read o (λ second. give (fork split first second))) q

-- the levels behind a node
abbrev pub levels_behind : Root → ℕ → List ℕ → List ℕ
levels_behind (low_leaf scale mults cause) level others = others
levels_behind (dead_leaf mults) level others = others
levels_behind (split_at split) level others = level ∷ level ∷ others

-- the trees that are due behind a node are refused where all of them are
pub behind_refused : (rows level : ℕ) (others : List ℕ) (root : Root) (before between : Reading) (n : ℕ) → root_due rows before ≡ Ok (root, between) → forest_due rows (levels_behind root level others) between ≡ Err n → forest_due rows (suc level ∷ others) before ≡ Err n
behind_refused rows level others (low_leaf scale mults cause) before between n r e =
    forest_refused_later rows (suc level) others before between (low scale mults cause) n (tree_of_root rows level before between (low_leaf scale mults cause) r) e
behind_refused rows level others (dead_leaf mults) before between n r e =
    forest_refused_later rows (suc level) others before between (dead mults) n (tree_of_root rows level before between (dead_leaf mults) r) e
behind_refused rows level others (split_at split) before between n r e =
    elim (then_err (tree_due rows level between) (λ tree. (forest_due rows (level ∷ others) >>= (λ trees. give (tree ∷ trees)))) n e) [
      | inl one ↦ forest_refused rows (suc level) others before n (fork_refused rows level split before between n r one)
      | inr one ↦
          elim (then_err (forest_due rows (level ∷ others) one.1) (λ trees. give (one.0 ∷ trees)) n one.3) [
            | inl two ↦
                elim (then_err (tree_due rows level one.1) (λ tree. (forest_due rows others >>= (λ trees. give (tree ∷ trees)))) n two) [
                  | inl three ↦ forest_refused rows (suc level) others before n (fork_refused_later rows level split before between one.1 one.0 n r one.2 three)
                  | inr three ↦
                      elim (then_err (forest_due rows others three.1) (λ trees. give (three.0 ∷ trees)) n three.3) [
                        | inl four ↦ forest_refused_later rows (suc level) others before three.1 (fork split one.0 three.0) n (tree_of_fork rows level split before between one.1 three.1 one.0 three.0 r one.2 three.2) four
                        | inr four ↦ let bad = four.3 in cc
                      ]
                ]
            | inr two ↦ let bad = two.3 in cc
          ]
    ]
