-- Multipliers as they are written down are those of one list of pairs: rows rise, and no multiplier that is written is 0.
use Rattle.std.proofs.Common.{◌≡◌, ◌≢◌, ℕ, ◌<◌, ◌≤◌, Bool, List, [], ◌∷◌, refl, sym, ap, subst, arith, ◌∙◌, ⊎_elim}
use Rattle.std.specs.Prelude.{ℤ, pos, if◌then◌else◌}
use Rattle.std.proofs.lemmas.Bool.{eq-eqb, ne_eqb, cases_eq, cases_lt}
use Rattle.algebra.specs.Numbered.{IsNumber}
use Rattle.safe_bounds.specs.Values.{multiplier_at}
use Rattle.safe_bounds.specs.Sparse.{told, dense}
use Rattle.safe_bounds.proofs.SparseLemmas.{multiplier_at-dense}
use Rattle.cert_tree.specs.Trees.{AreMultipliersBehind}

told_first : (p : ℕ × ℤ) (ps : List (ℕ × ℤ)) (i : ℕ) → p.0 ≡ i → told (p ∷ ps) i ≡ p.1
told_first p ps i e = ap (λ (b : Bool). if b then p.1 else told ps i) (eq-eqb p.0 i e)

told_later : (p : ℕ × ℤ) (ps : List (ℕ × ℤ)) (i : ℕ) → (p.0 ≡ i → ⊥) → told (p ∷ ps) i ≡ told ps i
told_later p ps i d = ap (λ (b : Bool). if b then p.1 else told ps i) (ne_eqb p.0 i d)

-- rows that come before all pairs have 0
told_before : (rows before i : ℕ) (ps : List (ℕ × ℤ)) → AreMultipliersBehind rows before ps → i ≤ before → told ps i ≡ pos 0
told_before rows before i [] h l = refl
told_before rows before i (p ∷ ps) h l =
    let b = h.0.behind in
    told_later p ps i (λ e. omega arith) ∙ told_before rows p.0 i ps h.1 (omega arith)

-- a pair whose row comes before all others' tells more than they
not_before : (rows : ℕ) (p : ℕ × ℤ) (ps qs : List (ℕ × ℤ)) (before : ℕ) → p.1 ≢ pos 0 → AreMultipliersBehind rows before qs → p.0 ≤ before → told (p ∷ ps) p.0 ≡ told qs p.0 → ⊥
not_before rows p ps qs before some h l e = some (sym (told_first p ps p.0 refl) ∙ e ∙ told_before rows before p.0 qs h l)

same_pair : (p q : ℕ × ℤ) → p.0 ≡ q.0 → p.1 ≡ q.1 → p ≡ q
same_pair (a, x) (b, y) e f = ap (λ i. (i, x)) e ∙ ap (λ z. (b, z)) f

same_told : (rows before : ℕ) (ps qs : List (ℕ × ℤ)) → AreMultipliersBehind rows before ps → AreMultipliersBehind rows before qs
    → ((i : ℕ) → before < i → i ≤ rows → told ps i ≡ told qs i) → ps ≡ qs
same_told rows before [] [] h k t = refl
same_told rows before [] (q ∷ qs) h k t = absurd (k.0.some (sym (told_first q qs q.0 refl) ∙ sym (t q.0 k.0.behind k.0.row)))
same_told rows before (p ∷ ps) [] h k t = absurd (h.0.some (sym (told_first p ps p.0 refl) ∙ t p.0 h.0.behind h.0.row))
same_told rows before (p ∷ ps) (q ∷ qs) h k t =
    ⊎_elim
    (λ (e : p.0 ≡ q.0).
    let value = sym (told_first p ps p.0 refl) ∙ t p.0 h.0.behind h.0.row ∙ told_first q qs p.0 (sym e) in
    let rest = same_told rows p.0 ps qs h.1 (subst (λ n. AreMultipliersBehind rows n qs) (sym e) k.1)
    (λ i l m.
    let b = h.0.behind in
    sym (told_later p ps i (λ s. omega (arith, l, s))) ∙ t i (omega (arith, l)) m ∙ told_later q qs i (λ s. omega (arith, l, s, e))) in
    ap (λ r. r ∷ ps) (same_pair p q e value) ∙ ap (λ rs. q ∷ rs) rest)
    (λ (d : p.0 ≡ q.0 → ⊥).
    ⊎_elim
    (λ (l : p.0 < q.0). absurd (h.0.some (sym (told_first p ps p.0 refl) ∙ t p.0 h.0.behind h.0.row ∙ told_later q qs p.0 (λ s. d (sym s)) ∙ told_before rows q.0 p.0 qs k.1 (omega arith))))
    (λ (l : q.0 ≤ p.0). absurd (k.0.some (sym (told_first q qs q.0 refl) ∙ sym (t q.0 k.0.behind k.0.row) ∙ told_later p ps q.0 d ∙ told_before rows p.0 q.0 ps h.1 l)))
    (cases_lt p.0 q.0))
    (cases_eq p.0 q.0)

pub same_pairs : (rows : ℕ) (ps qs : List (ℕ × ℤ)) → AreMultipliersBehind rows 0 ps → AreMultipliersBehind rows 0 qs → dense rows ps ≡ dense rows qs → ps ≡ qs
same_pairs rows ps qs h k e =
    same_told rows 0 ps qs h k
    (λ i l m.
    let n : IsNumber i rows = record { from_one = omega (arith, l); at_most = m } in
    sym (multiplier_at-dense rows ps i n) ∙ ap (λ xs. multiplier_at xs i) e ∙ multiplier_at-dense rows qs i n)
