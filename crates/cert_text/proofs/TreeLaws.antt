-- Multipliers, a node alone and a tree are spelled by their lines.
use Rattle.std.proofs.Common.{◌≡◌, ℕ, ℤ, zero, suc, ◌+◌, ◌≤◌, ◌<◌, ◌^◌, Option, List, [], ◌∷◌, ◌++◌, length, refl, sym, ap, subst, ◌∙◌, arith}
use Rattle.std.proofs.lemmas.List.{append-nil}
use Rattle.plan_text.proofs.SpellsLemmas.{Spells, made_spells}
use Rattle.milp_builder.specs.declared.boxes.Split.{Split}
use Rattle.cert_tree.specs.declared.tree.Why.{Why}
use Rattle.cert_tree.specs.Trees.{BoxTree, low, dead, fork, IsMultiplierBehind, AreMultipliersBehind}
use Rattle.cert_text.specs.declared.head.Head.{Head}
use Rattle.cert_text.specs.declared.head.Head.TheVariants.{Low, Dead, Parted}
use Rattle.cert_text.specs.NodeText.{Root, low_leaf, dead_leaf, split_at, spelled_words, low_words, dead_words, split_words, mult_words, mults_text, root_text, tree_text, IsRoot, IsSpelledTree}
use Rattle.cert_text.specs.Steps.{root_of}
use Rattle.cert_text.specs.WordForms.{head_form, mult_form}
use Rattle.cert_text.specs.inside.NodeReading.{line_due, mults_due, root_behind, root_due, tree_behind, tree_due}
use Rattle.cert_text.proofs.LineLaws.{form_spells, nothing_read, bind_spells, seq_spells, given_spells}
use Rattle.cert_text.proofs.HeadLaws.{head_words, IsHead, head_tells, mult_tells}

-- so many multipliers of rows behind one
abbrev AreCounted : ℕ → ℕ → ℕ → List (ℕ × ℤ) → Type 0
AreCounted rows before count mults = (length mults ≡ count) × AreMultipliersBehind rows before mults

no_mults : (mults : List (ℕ × ℤ)) → length mults ≡ 0 → [] ≡ mults
no_mults [] n = refl
no_mults (mult ∷ mults) n = absurd (omega (arith, n))

mults_parts : (rows before count : ℕ) (mults : List (ℕ × ℤ)) → AreCounted rows before (suc count) mults → (mult : ℕ × ℤ) × (others : List (ℕ × ℤ)) × ((mult ∷ others) ≡ mults) × IsMultiplierBehind rows before mult × AreCounted rows mult.0 count others
mults_parts rows before count [] h = let n = h.0 in absurd (omega (arith, n))
mults_parts rows before count (mult ∷ mults) h = let n = h.0 in (mult, mults, refl, h.1.0, (omega (arith, n), h.1.1))

mults_spells : (rows before count : ℕ) → rows < 10 ^ 30 → Spells (mults_due rows before count) mults_text (AreCounted rows before count)
mults_spells rows before zero few = given_spells [] mults_text (AreCounted rows before 0) refl (refl, tt) (λ mults h. no_mults mults h.0)
mults_spells rows before (suc count) few =
    bind_spells (line_due (mult_form rows before)) (λ mult. spelled_words (mult_words mult)) (IsMultiplierBehind rows before)
    (λ mult. mults_due rows mult.0 count) (λ mult mults. mults_text mults) (λ mult. AreCounted rows mult.0 count)
    (λ mult mults. mult ∷ mults) mults_text (AreCounted rows before (suc count))
    (form_spells (mult_form rows before) mult_words (IsMultiplierBehind rows before) (mult_tells rows before few))
    (λ mult h. mults_spells rows mult.0 count few)
    (λ mult mults h k. (refl, (ap suc k.0, (h, k.1))))
    (λ mults h. mults_parts rows before count mults h)

-- no more rows than there are
pub mults_few : (rows before : ℕ) (mults : List (ℕ × ℤ)) → before ≤ rows → AreMultipliersBehind rows before mults → length mults + before ≤ rows
mults_few rows before [] b h = omega (arith, b)
mults_few rows before (mult ∷ mults) b h =
    let row = h.0.row in
    let behind = h.0.behind in
    let more = mults_few rows mult.0 mults row h.1 in
    omega (arith, more, behind)

-- the multipliers of a node
abbrev mults_of : Root → List (ℕ × ℤ)
mults_of (low_leaf scale mults cause) = mults
mults_of (dead_leaf mults) = mults
mults_of (split_at split) = []

-- what follows the first line of a node
abbrev IsRest : ℕ → Head → Root → Type 0
IsRest rows (Low scale cause count) root = (mults : List (ℕ × ℤ)) × (root ≡ low_leaf scale mults cause) × AreCounted rows 0 count mults
IsRest rows (Dead count) root = (mults : List (ℕ × ℤ)) × (root ≡ dead_leaf mults) × AreCounted rows 0 count mults
IsRest rows (Parted split) root = split_at split ≡ root

low_back : (rows count : ℕ) (scale : ℤ) (cause : Option Why) (root : Root) → IsRest rows (Low scale cause count) root → (low_leaf scale (mults_of root) cause ≡ root) × AreCounted rows 0 count (mults_of root)
low_back rows count scale cause root h =
    let P : Root → Type 0 = λ root. (low_leaf scale (mults_of root) cause ≡ root) × AreCounted rows 0 count (mults_of root) in
    subst P (sym h.1) (refl, h.2)

dead_back : (rows count : ℕ) (root : Root) → IsRest rows (Dead count) root → (dead_leaf (mults_of root) ≡ root) × AreCounted rows 0 count (mults_of root)
dead_back rows count root h =
    let P : Root → Type 0 = λ root. (dead_leaf (mults_of root) ≡ root) × AreCounted rows 0 count (mults_of root) in
    subst P (sym h.1) (refl, h.2)

rest_spells : (rows : ℕ) (head : Head) → rows < 10 ^ 30 → Spells (root_behind rows head) (λ root. mults_text (mults_of root)) (IsRest rows head)
rest_spells rows (Low scale cause count) few =
    made_spells (mults_due rows 0 count) mults_text (AreCounted rows 0 count) (λ mults. low_leaf scale mults cause) mults_of (IsRest rows (Low scale cause count)) (mults_spells rows 0 count few)
    (λ mults h. (refl, (mults, refl, h)))
    (λ root h. low_back rows count scale cause root h)
rest_spells rows (Dead count) few =
    made_spells (mults_due rows 0 count) mults_text (AreCounted rows 0 count) (λ mults. dead_leaf mults) mults_of (IsRest rows (Dead count)) (mults_spells rows 0 count few)
    (λ mults h. (refl, (mults, refl, h)))
    (λ root h. dead_back rows count root h)
rest_spells rows (Parted split) few =
    given_spells (split_at split) (λ root. mults_text (mults_of root)) (IsRest rows (Parted split)) refl refl (λ root h. h)

rest_there : (rows : ℕ) (head : Head) (root : Root) → IsHead rows head → IsRest rows head root → (spelled_words (head_words head) ++ mults_text (mults_of root) ≡ root_text root) × IsRoot rows root
rest_there rows (Low scale cause count) root h k =
    let P : Root → Type 0 = λ root. (spelled_words (low_words scale cause count) ++ mults_text (mults_of root) ≡ root_text root) × IsRoot rows root in
    subst P (sym k.1) (ap (λ n. spelled_words (low_words scale cause n) ++ mults_text k.0) (sym k.2.0), (h.0, k.2.1))
rest_there rows (Dead count) root h k =
    let P : Root → Type 0 = λ root. (spelled_words (dead_words count) ++ mults_text (mults_of root) ≡ root_text root) × IsRoot rows root in
    subst P (sym k.1) (ap (λ n. spelled_words (dead_words n) ++ mults_text k.0) (sym k.2.0), k.2.1)
rest_there rows (Parted split) root h k =
    let P : Root → Type 0 = λ root. (spelled_words (split_words split) ++ mults_text (mults_of root) ≡ root_text root) × IsRoot rows root in
    subst P k (append-nil (spelled_words (split_words split)), h)

rest_back : (rows : ℕ) (root : Root) → IsRoot rows root → (head : Head) × IsHead rows head × IsRest rows head root
rest_back rows (low_leaf scale mults cause) h =
    let few = mults_few rows 0 mults (omega arith) h.1 in
    (Low scale cause (length mults), (h.0, omega (arith, few)), (mults, refl, (refl, h.1)))
rest_back rows (dead_leaf mults) h =
    let few = mults_few rows 0 mults (omega arith) h in
    (Dead (length mults), omega (arith, few), (mults, refl, (refl, h)))
rest_back rows (split_at split) h = (Parted split, h, refl)

pub root_spells : (rows : ℕ) → rows < 10 ^ 30 → Spells (root_due rows) root_text (IsRoot rows)
unfolding root_due
root_spells rows few =
    seq_spells (line_due (head_form rows)) (λ head. spelled_words (head_words head)) (IsHead rows) (root_behind rows) (λ root. mults_text (mults_of root)) (IsRest rows) root_text (IsRoot rows)
    (form_spells (head_form rows) head_words (IsHead rows) (head_tells rows few))
    (λ head h. rest_spells rows head few)
    (λ head root h k. rest_there rows head root h k)
    (λ root h. rest_back rows root h)

-- the lines behind a tree's root
abbrev pub tree_rest : BoxTree → List ℕ
tree_rest (low scale mults cause) = []
tree_rest (dead mults) = []
tree_rest (fork split first second) = tree_text first ++ tree_text second

-- the trees below a root have texts on so many levels
abbrev pub IsSpelledBelow : ℕ → ℕ → BoxTree → Type 0
IsSpelledBelow rows levels (low scale mults cause) = Unit {0}
IsSpelledBelow rows levels (dead mults) = Unit {0}
IsSpelledBelow rows levels (fork split first second) = IsSpelledTree rows levels first × IsSpelledTree rows levels second

abbrev IsTreeAt : ℕ → ℕ → Root → BoxTree → Type 0
IsTreeAt rows levels root tree = (root_of tree ≡ root) × IsSpelledBelow rows levels tree

pub tree_lines : (rows levels : ℕ) (tree : BoxTree) → IsRoot rows (root_of tree) → IsSpelledBelow rows levels tree → (root_text (root_of tree) ++ tree_rest tree ≡ tree_text tree) × IsSpelledTree rows (suc levels) tree
tree_lines rows levels (low scale mults cause) h k = (append-nil (root_text (low_leaf scale mults cause)), h)
tree_lines rows levels (dead mults) h k = (append-nil (root_text (dead_leaf mults)), h)
tree_lines rows levels (fork split first second) h k = (refl, (h, k.0, k.1))

pub tree_parts : (rows levels : ℕ) (tree : BoxTree) → IsSpelledTree rows (suc levels) tree → IsRoot rows (root_of tree) × IsSpelledBelow rows levels tree
tree_parts rows levels (low scale mults cause) h = (h, tt)
tree_parts rows levels (dead mults) h = (h, tt)
tree_parts rows levels (fork split first second) h = (h.0, (h.1, h.2))

leaf_is_low : (rows levels : ℕ) (scale : ℤ) (mults : List (ℕ × ℤ)) (cause : Option Why) (tree : BoxTree) → IsTreeAt rows levels (low_leaf scale mults cause) tree → low scale mults cause ≡ tree
leaf_is_low rows levels scale mults cause (low s m c) h = cc
leaf_is_low rows levels scale mults cause (dead m) h = let e = h.0 in cc
leaf_is_low rows levels scale mults cause (fork s a b) h = let e = h.0 in cc

leaf_is_dead : (rows levels : ℕ) (mults : List (ℕ × ℤ)) (tree : BoxTree) → IsTreeAt rows levels (dead_leaf mults) tree → dead mults ≡ tree
leaf_is_dead rows levels mults (low s m c) h = let e = h.0 in cc
leaf_is_dead rows levels mults (dead m) h = let e = h.0 in cc
leaf_is_dead rows levels mults (fork s a b) h = let e = h.0 in cc

fork_parts : (rows levels : ℕ) (split : Split) (tree : BoxTree) → IsTreeAt rows levels (split_at split) tree → (first : BoxTree) × (second : BoxTree) × (fork split first second ≡ tree) × IsSpelledTree rows levels first × IsSpelledTree rows levels second
fork_parts rows levels split (low s m c) h = let e = h.0 in cc
fork_parts rows levels split (dead m) h = let e = h.0 in cc
fork_parts rows levels split (fork s a b) h =
    let e = h.0 in let same : split ≡ s = cc in (a, b, ap (λ s. fork s a b) same, h.1.0, h.1.1)

below_spells : (rows levels : ℕ) (root : Root) → Spells (tree_due rows levels) tree_text (IsSpelledTree rows levels) → Spells (tree_behind (tree_due rows levels) root) tree_rest (IsTreeAt rows levels root)
below_spells rows levels (low_leaf scale mults cause) s =
    given_spells (low scale mults cause) tree_rest (IsTreeAt rows levels (low_leaf scale mults cause)) refl (refl, tt) (λ tree h. leaf_is_low rows levels scale mults cause tree h)
below_spells rows levels (dead_leaf mults) s =
    given_spells (dead mults) tree_rest (IsTreeAt rows levels (dead_leaf mults)) refl (refl, tt) (λ tree h. leaf_is_dead rows levels mults tree h)
below_spells rows levels (split_at split) s =
    bind_spells (tree_due rows levels) tree_text (IsSpelledTree rows levels) (λ first. tree_due rows levels) (λ first second. tree_text second) (λ first. IsSpelledTree rows levels)
    (λ first second. fork split first second) tree_rest (IsTreeAt rows levels (split_at split)) s (λ first h. s)
    (λ first second h k. (refl, (refl, (h, k))))
    (λ tree h. fork_parts rows levels split tree h)

at_there : (rows levels : ℕ) (root : Root) (tree : BoxTree) → IsRoot rows root → IsTreeAt rows levels root tree → (root_text root ++ tree_rest tree ≡ tree_text tree) × IsSpelledTree rows (suc levels) tree
at_there rows levels root tree h k =
    let lines = tree_lines rows levels tree (subst (IsRoot rows) (sym k.0) h) k.1 in
    (ap (λ r. root_text r ++ tree_rest tree) (sym k.0) ∙ lines.0, lines.1)

at_back : (rows levels : ℕ) (tree : BoxTree) → IsSpelledTree rows (suc levels) tree → (root : Root) × IsRoot rows root × IsTreeAt rows levels root tree
at_back rows levels tree h = let parts = tree_parts rows levels tree h in (root_of tree, parts.0, (refl, parts.1))

pub tree_spells : (rows levels : ℕ) → rows < 10 ^ 30 → Spells (tree_due rows levels) tree_text (IsSpelledTree rows levels)
tree_spells rows zero few =
    record {
      sound = λ before after tree e. absurd (nothing_read before after tree e);
      complete = λ before at tree rest h e. absurd h;
    }
tree_spells rows (suc levels) few =
    seq_spells (root_due rows) root_text (IsRoot rows) (tree_behind (tree_due rows levels)) tree_rest (IsTreeAt rows levels) tree_text (IsSpelledTree rows (suc levels))
    (root_spells rows few)
    (λ root h. below_spells rows levels root (tree_spells rows levels few))
    (λ root tree h k. at_there rows levels root tree h k)
    (λ tree h. at_back rows levels tree h)
