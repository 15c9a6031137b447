-- Multipliers as they are written down.
use Rattle.std.proofs.Common.{◌≡◌, ◌≢◌, ℕ, zero, suc, ◌+◌, ◌≤◌, ◌<◌, ◌==◌, Bool, true, false, cond, List, [], ◌∷◌, ◌++◌, length, take, get_or, refl, sym, ap, subst, arith, ◌∙◌}
use Rattle.std.specs.Prelude.{ℤ, pos, if◌then◌else◌, unsigned_abs}
use Rattle.std.specs.List.{All}
use Rattle.std.proofs.lemmas.Bool.{eq-eqb, ne_eqb}
use Rattle.std.proofs.lemmas.List.{take_more}
use Rattle.std.proofs.lemmas.List.Elements.{All-get_or}
use Rattle.algebra.proofs.Magnitudes.{zero_of_unsigned_abs}
use Rattle.safe_bounds.specs.Values.{IsMultiplier}
use Rattle.safe_bounds.specs.Sparse.{told, dense}
use Rattle.cert_tree.specs.Trees.{AreMultipliersBehind}
use Rattle.cert_tree.specs.Written.{IsWritten}
use Rattle.cert_tree.specs.inside.Pushed.{pushed_unless_zero}

-- both sides of a test
at_test : {A : Type 0} (P : A → Type 0) (b : Bool) (x y : A) → (b ≡ true → P x) → (b ≡ false → P y) → P (cond b x y)
at_test P true x y h k = h refl
at_test P false x y h k = k refl

behind_wider : (rows before : ℕ) (ps : List (ℕ × ℤ)) → AreMultipliersBehind rows before ps → AreMultipliersBehind (suc rows) before ps
behind_wider rows before [] h = tt
behind_wider rows before (p ∷ ps) h = (
  record { behind = h.0.behind; row = let r = h.0.row in omega arith; some = h.0.some; within = h.0.within },
  behind_wider rows p.0 ps h.1,
)

behind_push : (rows before : ℕ) (ps : List (ℕ × ℤ)) (y : ℤ) → before ≤ rows → y ≢ pos 0 → IsMultiplier y → AreMultipliersBehind rows before ps
    → AreMultipliersBehind (suc rows) before (ps ++ ((suc rows, y) ∷ []))
behind_push rows before [] y b some within h = (record { behind = omega arith; row = omega arith; some = some; within = within }, tt)
behind_push rows before (p ∷ ps) y b some within h = (
  record { behind = h.0.behind; row = let r = h.0.row in omega arith; some = h.0.some; within = h.0.within },
  behind_push rows p.0 ps y h.0.row some within h.1,
)

told_past : (rows before i : ℕ) (ps : List (ℕ × ℤ)) → rows < i → AreMultipliersBehind rows before ps → told ps i ≡ pos 0
told_past rows before i [] l h = refl
told_past rows before i (p ∷ ps) l h =
    let r = h.0.row in
    ap (λ (b : Bool). if b then p.1 else told ps i) (ne_eqb p.0 i (λ e. omega arith)) ∙ told_past rows p.0 i ps l h.1

told_push_elsewhere : (ps : List (ℕ × ℤ)) (q : ℕ × ℤ) (i : ℕ) → (q.0 ≡ i → ⊥) → told (ps ++ (q ∷ [])) i ≡ told ps i
told_push_elsewhere [] q i d = ap (λ (b : Bool). if b then q.1 else pos 0) (ne_eqb q.0 i d)
told_push_elsewhere (p ∷ ps) q i d = ap (λ (z : ℤ). if p.0 == i then p.1 else z) (told_push_elsewhere ps q i d)

told_push_here : (rows before : ℕ) (ps : List (ℕ × ℤ)) (q : ℕ × ℤ) → rows < q.0 → AreMultipliersBehind rows before ps → told (ps ++ (q ∷ [])) q.0 ≡ q.1
told_push_here rows before [] q l h = ap (λ (b : Bool). if b then q.1 else pos 0) (eq-eqb q.0 q.0 refl)
told_push_here rows before (p ∷ ps) q l h =
    let r = h.0.row in
    ap (λ (b : Bool). if b then p.1 else told (ps ++ (q ∷ [])) q.0) (ne_eqb p.0 q.0 (λ e. omega arith)) ∙ told_push_here rows p.0 ps q l h.1

dense_push_past : (count : ℕ) (ps : List (ℕ × ℤ)) (q : ℕ × ℤ) → count < q.0 → dense count (ps ++ (q ∷ [])) ≡ dense count ps
dense_push_past zero ps q l = refl
dense_push_past (suc count) ps q l =
    ap (λ (xs : List ℤ). xs ++ (told (ps ++ (q ∷ [])) (suc count) ∷ [])) (dense_push_past count ps q (omega arith))
    ∙ ap (λ (y : ℤ). dense count ps ++ (y ∷ [])) (told_push_elsewhere ps q (suc count) (λ e. omega arith))

-- one more multiplier, given as the entry at its place
written_suc : (mults : List ℤ) (count : ℕ) (pairs : List (ℕ × ℤ)) (y : ℤ) → take (suc count) mults ≡ take count mults ++ (y ∷ []) → IsMultiplier y
    → IsWritten mults count pairs → IsWritten mults (suc count) (pushed_unless_zero pairs (suc count) y)
written_suc mults count pairs y more within h =
    at_test (λ (ps : List (ℕ × ℤ)). IsWritten mults (suc count) ps) (unsigned_abs y == 0) pairs (pairs ++ ((suc count, y) ∷ []))
    (λ t.
    let none : y ≡ pos 0 = zero_of_unsigned_abs y (grind arith) in
    record {
      on_rows = behind_wider count 0 pairs h.on_rows;
      same =
          ap (λ (z : ℤ). dense count pairs ++ (z ∷ [])) (told_past count 0 (suc count) pairs (omega arith) h.on_rows ∙ sym none)
          ∙ ap (λ (xs : List ℤ). xs ++ (y ∷ [])) h.same
          ∙ sym more;
    })
    (λ f.
    let some : y ≢ pos 0 = λ e. grind arith in
    record {
      on_rows = behind_push count 0 pairs y (omega arith) some within h.on_rows;
      same =
          ap (λ (xs : List ℤ). xs ++ (told (pairs ++ ((suc count, y) ∷ [])) (suc count) ∷ [])) (dense_push_past count pairs (suc count, y) (omega arith))
          ∙ ap (λ (z : ℤ). dense count pairs ++ (z ∷ [])) (told_push_here count 0 pairs (suc count, y) (omega arith) h.on_rows)
          ∙ ap (λ (xs : List ℤ). xs ++ (y ∷ [])) h.same
          ∙ sym more;
    })

pub written_more : (mults : List ℤ) (count : ℕ) (pairs : List (ℕ × ℤ)) → count < length mults → All IsMultiplier mults
    → IsWritten mults count pairs → IsWritten mults (count + 1) (pushed_unless_zero pairs (count + 1) (get_or mults count (pos 0)))
written_more mults count pairs l all h =
    let next : suc count ≡ count + 1 = omega arith in
    let y = get_or mults count (pos 0) in
    let more : take (suc count) mults ≡ take count mults ++ (y ∷ []) = ap (λ (n : ℕ). take n mults) next ∙ take_more mults count (pos 0) l in
    subst (λ (n : ℕ). IsWritten mults n (pushed_unless_zero pairs n y)) next
    (written_suc mults count pairs y more (All-get_or IsMultiplier mults count (pos 0) l all) h)

pub written_start : (mults : List ℤ) → IsWritten mults 0 []
written_start mults = record { on_rows = tt; same = refl }

-- ---- one multiplier pushed

pub pushed_some : (pairs : List (ℕ × ℤ)) (row : ℕ) (mult : ℤ) → mult ≢ pos 0 → pairs ++ ((row, mult) ∷ []) ≡ pushed_unless_zero pairs row mult
pushed_some pairs row mult some =
    let test : (unsigned_abs mult == 0) ≡ false = ne_eqb (unsigned_abs mult) 0 (λ e. some (zero_of_unsigned_abs mult e)) in
    ap (λ (b : Bool). if b then pairs else pairs ++ ((row, mult) ∷ [])) (sym test)

pub pushed_none : (pairs : List (ℕ × ℤ)) (row : ℕ) (mult : ℤ) → mult ≡ pos 0 → pairs ≡ pushed_unless_zero pairs row mult
pushed_none pairs row mult none =
    let test : (unsigned_abs mult == 0) ≡ true = eq-eqb (unsigned_abs mult) 0 (ap unsigned_abs none) in
    ap (λ (b : Bool). if b then pairs else pairs ++ ((row, mult) ∷ [])) (sym test)
