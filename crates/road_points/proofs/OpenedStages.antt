-- Numbers by stage that are 0 or one number and never fall: they are 0 up to a stage, and that number from the next one on.
use Rattle.std.proofs.Common.{◌≡◌, ℕ, zero, suc, ◌+◌, ◌≤◌, ◌<◌, true, false, cond, arith, ap, sym, ◌∙◌, refl, ⊎_elim, ◌⊎◌}
use Rattle.std.specs.Prelude.{ℤ, pos, ◌≤ℤ◌, ◌<ℤ◌}
use Rattle.std.specs.Ordering.{int_eq}
use Rattle.std.proofs.lemmas.Int.{ints}
use Rattle.road_points.specs.ShownPlan.{zeros_to}
use Rattle.std.proofs.lemmas.Bool.{cases_lt}

-- h t is 0 where t is among the first so many, and else the number
pub record IsStep (h : ℕ → ℤ) (den : ℤ) (zeros n : ℕ) : Type 0 where
  pub most : zeros ≤ n
  pub before : (t : ℕ) → 1 ≤ t → t ≤ zeros → h t ≡ pos 0
  pub after : (t : ℕ) → zeros < t → t ≤ n → h t ≡ den

module _ (h : ℕ → ℤ) (den : ℤ) (positive : pos 0 <ℤ den) where
  zero_more : (n : ℕ) → h (suc n) ≡ pos 0 → zeros_to h (suc n) ≡ zeros_to h n + 1
  unfolding zeros_to
  zero_more n e = let test : int_eq (h (suc n)) (pos 0) ≡ true = grind (arith, ints) in ap (λ b. zeros_to h n + cond b 1 0) test

  den_more : (n : ℕ) → h (suc n) ≡ den → zeros_to h (suc n) ≡ zeros_to h n
  unfolding zeros_to
  den_more n e = let test : int_eq (h (suc n)) (pos 0) ≡ false = grind (arith, ints) in ap (λ b. zeros_to h n + cond b 1 0) test ∙ omega arith

  none_yet : zeros_to h 0 ≡ 0
  unfolding zeros_to
  none_yet = refl

  pub is_step : (n : ℕ) → ((t : ℕ) → 1 ≤ t → t ≤ n → (h t ≡ pos 0) ⊎ (h t ≡ den)) → ((t : ℕ) → 1 ≤ t → suc t ≤ n → h t ≤ℤ h (suc t)) → IsStep h den (zeros_to h n) n
  is_step zero each rises = record {
    most = omega (arith, none_yet);
    before = λ t low high. absurd (omega (arith, none_yet));
    after = λ t low high. absurd (omega (arith, none_yet));
  }
  is_step (suc n) each rises =
      let s = is_step n (λ t low high. each t low (omega arith)) (λ t low high. rises t low (omega arith)) in
      ⊎_elim
      (λ (e : h (suc n) ≡ pos 0).
      let more = zero_more n e in
      let all : n ≤ zeros_to h n =
      ⊎_elim
      (λ (l : zeros_to h n < n). let up = rises n (omega arith) (omega arith) in let last = s.after n l (omega arith) in absurd (omega (arith, ints)))
      (λ (l : n ≤ zeros_to h n). l)
      (cases_lt (zeros_to h n) n) in
      record {
        most = omega (arith, s.most);
        before = λ t low high.
            ⊎_elim
            (λ (l : t < suc n). s.before t low (omega arith))
            (λ (l : suc n ≤ t). let same : suc n ≡ t = omega (arith, s.most) in ap h (sym same) ∙ e)
            (cases_lt t (suc n));
        after = λ t low high. absurd (omega arith);
      })
      (λ (e : h (suc n) ≡ den).
      let more = den_more n e in
      record {
        most = omega (arith, s.most);
        before = λ t low high. s.before t low (omega arith);
        after = λ t low high.
            ⊎_elim
            (λ (l : t < suc n). s.after t (omega arith) (omega arith))
            (λ (l : suc n ≤ t). let same : suc n ≡ t = omega arith in ap h (sym same) ∙ e)
            (cases_lt t (suc n));
      })
      (each (suc n) (omega arith) (omega arith))
