-- What a step of a reader of nodes says of the text that is left.
use Rattle.std.proofs.Common.{◌≡◌, ◌↔◌, ◌⊎◌, inl, inr, ℕ, ℤ, zero, suc, ◌-◌, ◌≤◌, ◌<◌, ◌^◌, Result, Ok, Err, IfOk, IfErr, List, [], ◌∷◌, ◌++◌, drop, refl, sym, ap, subst, ◌∙◌, arith, append_assoc}
use Rattle.std.specs.Result.{IsOkAnd}
use Rattle.text_parts.specs.Lines.{Reading, IsOfSource, lines_of, text_of}
use Rattle.text_parts.proofs.LinesLemmas.{text_of-lines_of}
use Rattle.plan_text.specs.Taken.{Took}
use Rattle.plan_text.proofs.SpellsLemmas.{took_none, ok_parts}
use Rattle.cert_tree.specs.Trees.{BoxTree, low, dead, fork}
use Rattle.cert_text.specs.declared.step.Step.{Step}
use Rattle.cert_text.specs.declared.step.Step.TheVariants.{End}
use Rattle.cert_text.specs.NodeText.{Root, low_leaf, dead_leaf, split_at, root_text, tree_text, IsRoot, IsSpelledTree}
use Rattle.cert_text.specs.Steps.{step_of, mults_after, levels_after, root_of, trees_behind, forest_text, AreDue, step_text, NoNodeIsNext, IsAtFirst, IsStepAt}
use Rattle.cert_text.specs.inside.NodeReading.{root_due, root_on}
use Rattle.cert_text.specs.inside.StepReading.{TakesNode, Steps}
use Rattle.cert_text.proofs.LineLaws.{nothing_read}
use Rattle.cert_text.proofs.TreeLaws.{root_spells, tree_rest, IsSpelledBelow, tree_lines, tree_parts}

few_rows : (rows : ℕ) → rows ≤ 600 → rows < 10 ^ 30
few_rows rows h = omega (arith, h)

-- a node's step isn't the end
not_end : (root : Root) → step_of root ≡ End → ⊥
not_end (low_leaf scale mults cause) e = cc
not_end (dead_leaf mults) e = cc
not_end (split_at split) e = cc

pub whole : (rows : ℕ) (levels : List ℕ) (before after : Reading) (result : Result Step ℕ) (last mults : List (ℕ × ℤ)) (left : List ℕ) → Steps rows levels before result after last mults left → IfOk result (λ step. (step ≡ End) ↔ (levels ≡ []))
whole rows [] before after (Ok step) last mults left h = (λ e. refl, λ e. h.step_is)
whole rows (level ∷ others) before after (Ok step) last mults left h = (λ e. absurd (not_end h.root (sym h.step_is ∙ e)), λ e. cc)
whole rows levels before after (Err line) last mults left h = tt

root_lines : (root : Root) (last : List (ℕ × ℤ)) → step_text (step_of root) (mults_after root last) ≡ root_text root
root_lines (low_leaf scale mults cause) last = refl
root_lines (dead_leaf mults) last = refl
root_lines (split_at split) last = refl

root_took : (rows level : ℕ) (before after : Reading) (root : Root) → rows ≤ 600 → root_on rows level before ≡ Ok (root, after) → Took before after (root_text root)
root_took rows zero before after root few e = absurd (nothing_read before after root e)
root_took rows (suc level) before after root few e = ((root_spells rows (few_rows rows few)).sound before after root e).0

pub found : (rows : ℕ) (levels : List ℕ) (before after : Reading) (result : Result Step ℕ) (last mults : List (ℕ × ℤ)) (left : List ℕ) → rows ≤ 600 → Steps rows levels before result after last mults left → IfOk result (λ step. Took before after (step_text step mults))
found rows [] before after (Ok step) last mults left few h =
    subst (λ s. Took before after (step_text s mults)) (sym h.step_is) (subst (λ r. Took before r []) (sym h.lines_are) (took_none before))
found rows (level ∷ others) before after (Ok step) last mults left few h =
    let took = root_took rows level before after h.root few h.read in
    subst (λ s. Took before after (step_text s mults)) (sym h.step_is)
    (subst (λ m. Took before after (step_text (step_of h.root) m)) (sym h.mults_is)
    (subst (λ t. Took before after t) (sym (root_lines h.root last)) took))
found rows levels before after (Err line) last mults left few h = tt

-- a node whose lines stand at the front is read
starts : (rows : ℕ) (before : Reading) (root : Root) (rest : List ℕ) → rows ≤ 600 → IsOfSource before → IsRoot rows root → text_of before.left ≡ root_text root ++ rest → (after : Reading) × (place : ℕ) × (root_due rows before ≡ Ok (root, after)) × (after.left ≡ lines_of place rest)
starts rows before root rest few o h e =
    let text = sym (text_of-lines_of o.place (drop o.place before.source)) ∙ ap text_of (sym o.left_is) ∙ e in
    (root_spells rows (few_rows rows few)).complete before o.place root rest h (o.left_is ∙ ap (lines_of o.place) text)

refused_none : (rows level line : ℕ) (before : Reading) (root : Root) (rest : List ℕ) → rows ≤ 600 → IsOfSource before → root_on rows level before ≡ Err line → 0 < level → IsRoot rows root → text_of before.left ≡ root_text root ++ rest → ⊥
refused_none rows zero line before root rest few o e some h t = absurd (omega (arith, some))
refused_none rows (suc level) line before root rest few o e some h t = let read = starts rows before root rest few o h t in cc (read.2, e)

pub only : (rows : ℕ) (levels : List ℕ) (before after : Reading) (result : Result Step ℕ) (last mults : List (ℕ × ℤ)) (left : List ℕ) → rows ≤ 600 → (levels ≡ []) ⊎ IsOfSource before → Steps rows levels before result after last mults left → IfErr result (λ _. NoNodeIsNext rows levels before)
only rows levels before after (Ok step) last mults left few o h = tt
only rows [] before after (Err line) last mults left few o h = absurd h
only rows (level ∷ others) before after (Err line) last mults left few (inl e) h = cc
only rows (level ∷ others) before after (Err line) last mults left few (inr o) h =
    record { level = level; others = others; is_due = refl; none = λ root rest some r t. refused_none rows level line before root rest few o h some r t }

-- the trees behind the first root, by its lines
behind_lines : (tree : BoxTree) (trees : List BoxTree) (rest : List ℕ) → tree_rest tree ++ (forest_text trees ++ rest) ≡ forest_text (trees_behind tree trees) ++ rest
behind_lines (low scale mults cause) trees rest = refl
behind_lines (dead mults) trees rest = refl
behind_lines (fork split first second) trees rest =
    sym (append_assoc (tree_text first ++ tree_text second) (forest_text trees) rest)
    ∙ ap (λ t. t ++ rest) (append_assoc (tree_text first) (tree_text second) (forest_text trees))

behind_due : (rows level : ℕ) (others : List ℕ) (tree : BoxTree) (trees : List BoxTree) → IsSpelledBelow rows level tree → AreDue rows others trees → AreDue rows (levels_after (step_of (root_of tree)) level others) (trees_behind tree trees)
behind_due rows level others (low scale mults cause) trees h k = k
behind_due rows level others (dead mults) trees h k = k
behind_due rows level others (fork split first second) trees h k = (h.0, (h.1, k))

at_first : (rows level : ℕ) (others : List ℕ) (tree : BoxTree) (trees : List BoxTree) (rest : List ℕ) (before after : Reading) (step : Step) (last mults : List (ℕ × ℤ)) (left : List ℕ) → rows ≤ 600 → IsOfSource before → IsSpelledTree rows level tree → AreDue rows others trees → text_of before.left ≡ (tree_text tree ++ forest_text trees) ++ rest → TakesNode rows level others before after step last mults left → IsAtFirst rows tree trees rest step last mults left after
at_first rows zero others tree trees rest before after step last mults left few o h k t n = absurd h
at_first rows (suc level) others tree trees rest before after step last mults left few o h k t n =
    let parts = tree_parts rows level tree h in
    let lines = tree_lines rows level tree parts.0 parts.1 in
    let root = root_of tree in
    let behind = tree_rest tree ++ (forest_text trees ++ rest) in
    let text : text_of before.left ≡ root_text root ++ behind =
    t ∙ append_assoc (tree_text tree) (forest_text trees) rest ∙ ap (λ x. x ++ (forest_text trees ++ rest)) (sym lines.0) ∙ append_assoc (root_text root) (tree_rest tree) (forest_text trees ++ rest) in
    let read = starts rows before root behind few o parts.0 text in
    let same = ok_parts n.root root after read.0 (sym n.read ∙ read.2) in
    let step_is : step ≡ step_of root = n.step_is ∙ ap step_of same.0 in
    let back : suc level - 1 ≡ level = omega arith in
    record {
      step_is = step_is;
      mults_is = n.mults_is ∙ ap (λ r. mults_after r last) same.0;
      are_due = subst (λ ls. AreDue rows ls (trees_behind tree trees)) (sym (n.levels_is ∙ ap (λ l. levels_after step l others) back ∙ ap (λ s. levels_after s level others) step_is)) (behind_due rows level others tree trees parts.1 k);
      text_is = ap (λ (r : Reading). text_of r.left) same.1 ∙ ap text_of read.3 ∙ text_of-lines_of read.1 behind ∙ behind_lines tree trees rest;
    }

not_refused : (rows level line : ℕ) (tree : BoxTree) (trees : List BoxTree) (rest : List ℕ) (before : Reading) → rows ≤ 600 → IsOfSource before → IsSpelledTree rows level tree → text_of before.left ≡ (tree_text tree ++ forest_text trees) ++ rest → root_on rows level before ≡ Err line → ⊥
not_refused rows zero line tree trees rest before few o h t e = h
not_refused rows (suc level) line tree trees rest before few o h t e =
    let parts = tree_parts rows level tree h in
    let lines = tree_lines rows level tree parts.0 parts.1 in
    let root = root_of tree in
    let text = t ∙ append_assoc (tree_text tree) (forest_text trees) rest ∙ ap (λ x. x ++ (forest_text trees ++ rest)) (sym lines.0) ∙ append_assoc (root_text root) (tree_rest tree) (forest_text trees ++ rest) in
    let read = starts rows before root (tree_rest tree ++ (forest_text trees ++ rest)) few o parts.0 text in
    cc (read.2, e)

pub exact : (rows : ℕ) (levels : List ℕ) (before after : Reading) (result : Result Step ℕ) (last mults : List (ℕ × ℤ)) (left : List ℕ) → rows ≤ 600 → (levels ≡ []) ⊎ IsOfSource before → Steps rows levels before result after last mults left → (trees : List BoxTree) (rest : List ℕ) → AreDue rows levels trees → text_of before.left ≡ forest_text trees ++ rest → IsOkAnd result (λ step. IsStepAt rows trees rest step last mults left after)
exact rows [] before after (Ok step) last mults left few o h [] rest d t = h.step_is
exact rows [] before after (Ok step) last mults left few o h (tree ∷ trees) rest d t = absurd d
exact rows (level ∷ others) before after (Ok step) last mults left few o h [] rest d t = absurd d
exact rows (level ∷ others) before after (Ok step) last mults left few (inl e) h (tree ∷ trees) rest d t = cc
exact rows (level ∷ others) before after (Ok step) last mults left few (inr o) h (tree ∷ trees) rest d t =
    at_first rows level others tree trees rest before after step last mults left few o d.0 d.1 t h
exact rows [] before after (Err line) last mults left few o h trees rest d t = absurd h
exact rows (level ∷ others) before after (Err line) last mults left few o h [] rest d t = absurd d
exact rows (level ∷ others) before after (Err line) last mults left few (inl e) h (tree ∷ trees) rest d t = cc
exact rows (level ∷ others) before after (Err line) last mults left few (inr o) h (tree ∷ trees) rest d t =
    absurd (not_refused rows level line tree trees rest before few o d.0 t h)
