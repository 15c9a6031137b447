-- The form with a number, among groups of forms and in lists of them.
use Rattle.std.proofs.Common.{◌≡◌, ℕ, zero, suc, ◌+◌, ◌-◌, ◌*◌, ◌/◌, ◌%◌, ◌<◌, ◌≤◌, List, [], ◌∷◌, ◌++◌, length, get_or, arith, ap, sym, ◌∙◌, refl}
use Rattle.std.proofs.lemmas.Nat.{div-add-mod'}
use Rattle.std.proofs.Math.Nat.{mod-lt, div-lt_iff_lt-mul}
use Rattle.std.proofs.lemmas.List.{get_or_append_left, get_or-append_right, get_or_default}
use Rattle.algebra.specs.Lists.{list_to, flat_to, IsEntry}
use Rattle.algebra.specs.Numbered.{numbered, IsNumber}
use Rattle.algebra.proofs.ListsLemmas.{list_to_entry, flat_to_entry, entry_at}
use Rattle.std.specs.Prelude.{ℤ}
use Rattle.road_types.specs.Forms.{Form, no_form}
use Rattle.term_store.specs.declared.side.Side.{Side}
use Rattle.form_rows.specs.FormRows.{asked}

entry_numbered : (xs : List Form) (j : ℕ) → IsNumber j (length xs) → IsEntry xs j (numbered no_form xs j)
entry_numbered xs zero n = absurd (omega (arith, n.from_one))
entry_numbered xs (suc k) n = record {
  before = k;
  number = refl;
  within = omega (arith, n.at_most);
  is_entry = sym (get_or_default xs k no_form (get_or xs k no_form) (omega (arith, n.at_most)));
}

numbered_entry : (xs : List Form) (j : ℕ) (x : Form) → IsEntry xs j x → numbered no_form xs j ≡ x
numbered_entry xs j x e =
    ap (numbered no_form xs) e.number ∙ get_or_default xs e.before no_form x e.within ∙ e.is_entry

-- a number within the first of two lists, and one behind it
pub first_at : (xs ys : List Form) (k : ℕ) → k ≤ length xs → numbered no_form (xs ++ ys) k ≡ numbered no_form xs k
first_at xs ys zero l = refl
first_at xs ys (suc k) l = get_or_append_left xs ys no_form k (omega arith)

pub behind_at : (xs ys : List Form) (n k : ℕ) → length xs ≡ n → n < k → numbered no_form (xs ++ ys) k ≡ numbered no_form ys (k - n)
behind_at xs ys n zero e l = absurd (omega arith)
behind_at xs ys n (suc k) e l =
    let less : suc k - n ≡ suc (k - n) = omega arith in
    get_or-append_right xs ys n k no_form e (omega arith) ∙ sym (ap (numbered no_form ys) less)

pub list_at : (f : ℕ → Form) (n k : ℕ) → IsNumber k n → numbered no_form (list_to f n) k ≡ f k
list_at f n k m = numbered_entry (list_to f n) k (f k) (list_to_entry f n k m.from_one m.at_most)

pub few_lists : (at n w : ℕ) → 1 ≤ at → at ≤ n * w → 1 ≤ w → (at - 1) / w + 1 ≤ n
few_lists at n w low high wide =
    let positive : 0 < w = omega arith in
    let below : at - 1 < n * w = omega arith in
    let quotient : (at - 1) / w < n = (div-lt_iff_lt-mul positive).1 below in
    omega arith

pub flat_at : (f : ℕ → List Form) (n w at : ℕ) → ((k : ℕ) → 1 ≤ k → k ≤ n → length (f k) ≡ w) → 1 ≤ w → IsNumber at (n * w)
    → numbered no_form (flat_to f n) at ≡ numbered no_form (f ((at - 1) / w + 1)) ((at - 1) % w + 1)
flat_at f n w at h wide m =
    let k = (at - 1) / w + 1 in
    let p = (at - 1) % w + 1 in
    let parts = div-add-mod' (at - 1) w in
    let few : k ≤ n = few_lists at n w m.from_one m.at_most wide in
    let size = h k (omega arith) few in
    let narrow : p ≤ w = (let positive : 0 < w = omega arith in let small : (at - 1) % w < w = mod-lt (at - 1) positive in omega arith) in
    let inside = entry_numbered (f k) p (record { from_one = omega arith; at_most = omega (arith, size, narrow) }) in
    let less : k - 1 ≡ (at - 1) / w = omega arith in
    let place : (k - 1) * w + p ≡ at = omega (arith, ap (λ x. x * w) less, m.from_one) in
    numbered_entry (flat_to f n) at (numbered no_form (f k) p)
    (entry_at (flat_to f n) ((k - 1) * w + p) at (numbered no_form (f k) p) place
    (flat_to_entry f n w k p (numbered no_form (f k) p) h (omega arith) few inside))

-- ---- pairs of forms

pub pair_first : (a b : Form) (p : ℕ) → p ≡ 0 → numbered no_form (a ∷ b ∷ []) (p + 1) ≡ a
pair_first a b p e = ap (λ k. numbered no_form (a ∷ b ∷ []) (k + 1)) e

one_left : (p : ℕ) → p < 2 → (p ≡ 0 → ⊥) → p ≡ 1
one_left zero l differs = absurd (differs refl)
one_left (suc zero) l differs = refl
one_left (suc (suc p)) l differs = absurd (omega arith)

pub pair_second : (a b : Form) (p : ℕ) → p < 2 → (p ≡ 0 → ⊥) → numbered no_form (a ∷ b ∷ []) (p + 1) ≡ b
pair_second a b p l differs =
    let e : p ≡ 1 = one_left p l differs in
    ap (λ k. numbered no_form (a ∷ b ∷ []) (k + 1)) e

pub pair_alike : (a b : Form) (value : Side × ℤ) (p : ℕ) → p < 2 → asked a ≡ value → asked b ≡ value → asked (numbered no_form (a ∷ b ∷ []) (p + 1)) ≡ value
pair_alike a b value zero l e f = e
pair_alike a b value (suc zero) l e f = f
pair_alike a b value (suc (suc p)) l e f = absurd (omega arith)

pub below_two : (n : ℕ) → n % 2 < 2
below_two n = let positive : 0 < 2 = omega arith in mod-lt n positive
