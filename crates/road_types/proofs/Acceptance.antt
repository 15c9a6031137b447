-- From tests to facts and back: of numbers, of all entries of a list, of neighbours and of pairs.
use Rattle.std.specs.Prelude.{ℕ, zero, suc, ◌<◌, ◌≤◌, Bool, true, false, ◌&&◌, ◌==◌, nat_le, None, List, [], ◌∷◌, length, ℤ, ◌<ℤ◌, ◌≤ℤ◌, int_le, int_lt}
use Rattle.std.specs.List.{list_all}
use Rattle.std.proofs.Common.{◌≡◌, refl, sym, ⊎_elim, arith}
use Rattle.std.proofs.lemmas.Bool.{cases_order}
use Rattle.std.proofs.lemmas.Int.{ints}
use Rattle.std.proofs.lemmas.Bool.Decides.{nat_tests}
use Rattle.road_types.specs.declared.fault.Fault.{Fault}
use Rattle.road_types.specs.Numbered.{numbered, IsNumber}
use Rattle.road_types.specs.RecordFaults
use Rattle.road_types.specs.RecordFaults.{is_between, first_broken, all_neighbours, all_pairs}
use Rattle.road_types.specs.WellFormed.{IsBetween}

-- a rule that is kept leaves the answer to the others
pub record IsKept (b : Bool) (fault : Fault) (rest : List (Bool × Fault)) : Type 0 where
  pub kept : b ≡ true
  pub others : first_broken rest ≡ None

pub kept_first : (b : Bool) (fault : Fault) (rest : List (Bool × Fault)) → first_broken ((b, fault) ∷ rest) ≡ None → IsKept b fault rest
kept_first true fault rest h = record { kept = refl; others = h }
kept_first false fault rest h = cc

pub none_first : (b : Bool) (fault : Fault) (rest : List (Bool × Fault)) → b ≡ true → first_broken rest ≡ None → first_broken ((b, fault) ∷ rest) ≡ None
none_first true fault rest h others = others
none_first false fault rest h others = cc

-- tests that hold together

pub both_true : (a b : Bool) → (a && b) ≡ true → (a ≡ true) × (b ≡ true)
both_true true b h = (refl, h)
both_true false b h = cc

pub true_both : (a b : Bool) → a ≡ true → b ≡ true → (a && b) ≡ true
true_both true b p q = q
true_both false b p q = cc

pub record Three (a b c : Bool) : Type 0 where
  pub first : a ≡ true
  pub second : b ≡ true
  pub third : c ≡ true

pub three_true : (a b c : Bool) → (a && b && c) ≡ true → Three a b c
three_true a b c h =
    let y = both_true (a && b) c h in
    let z = both_true a b y.0 in
    record { first = z.0; second = z.1; third = y.1 }

pub true_three : (a b c : Bool) → Three a b c → (a && b && c) ≡ true
true_three a b c t = true_both (a && b) c (true_both a b t.first t.second) t.third

pub record Four (a b c d : Bool) : Type 0 where
  pub first : a ≡ true
  pub second : b ≡ true
  pub third : c ≡ true
  pub fourth : d ≡ true

pub four_true : (a b c d : Bool) → (a && b && c && d) ≡ true → Four a b c d
four_true a b c d h =
    let x = both_true (a && b && c) d h in
    let y = both_true (a && b) c x.0 in
    let z = both_true a b y.0 in
    record { first = z.0; second = z.1; third = y.1; fourth = x.1 }

pub true_four : (a b c d : Bool) → Four a b c d → (a && b && c && d) ≡ true
true_four a b c d t = true_both (a && b && c) d (true_three a b c (record { first = t.first; second = t.second; third = t.third })) t.fourth

-- a test that every entry passes, at the entry with a number
pub test_numbered : {A : Type 0} (test : A → Bool) (xs : List A) → list_all test xs ≡ true → (other : A) (k : ℕ) → IsNumber k (length xs) → test (numbered other xs k) ≡ true
test_numbered test xs h other zero n = absurd (omega (arith, n.from_one))
test_numbered test [] h other (suc k) n = absurd (omega (arith, n.at_most))
test_numbered test (x ∷ xs) h other (suc zero) n = (both_true (test x) (list_all test xs) h).0
test_numbered test (x ∷ xs) h other (suc (suc k)) n =
    let m : IsNumber (suc k) (length xs) = record { from_one = omega arith; at_most = omega (arith, n.at_most) } in
    test_numbered test xs (both_true (test x) (list_all test xs) h).1 other (suc k) m

later_entry : {A : Type 0} (test : A → Bool) (x : A) (xs : List A) (other : A) → ((k : ℕ) → IsNumber k (length (x ∷ xs)) → test (numbered other (x ∷ xs) k) ≡ true)
    → (k : ℕ) → IsNumber k (length xs) → test (numbered other xs k) ≡ true
later_entry test x xs other h zero n = absurd (omega (arith, n.from_one))
later_entry test x xs other h (suc k) n = h (suc (suc k)) (record { from_one = omega arith; at_most = omega (arith, n.at_most) })

pub numbered_test : {A : Type 0} (test : A → Bool) (xs : List A) (other : A) → ((k : ℕ) → IsNumber k (length xs) → test (numbered other xs k) ≡ true) → list_all test xs ≡ true
numbered_test test [] other h = refl
numbered_test test (x ∷ xs) other h =
    true_both (test x) (list_all test xs)
    (h 1 (record { from_one = omega arith; at_most = omega arith }))
    (numbered_test test xs other (later_entry test x xs other h))

-- a relation between neighbours, at a number and the next
pub neighbours_at : {A : Type 0} (R : A → A → Bool) (xs : List A) → all_neighbours R xs ≡ true → (other : A) (k : ℕ) → 1 ≤ k → k < length xs
    → R (numbered other xs k) (numbered other xs (suc k)) ≡ true
unfolding all_neighbours
neighbours_at R xs h other zero from to = absurd (omega arith)
neighbours_at R [] h other (suc k) from to = absurd (omega arith)
neighbours_at R (x ∷ []) h other (suc k) from to = absurd (omega arith)
neighbours_at R (x ∷ y ∷ rest) h other (suc zero) from to = (both_true (R x y) (all_neighbours R (y ∷ rest)) h).0
neighbours_at R (x ∷ y ∷ rest) h other (suc (suc k)) from to =
    neighbours_at R (y ∷ rest) (both_true (R x y) (all_neighbours R (y ∷ rest)) h).1 other (suc k) (omega arith) (omega arith)

later_neighbours : {A : Type 0} (R : A → A → Bool) (x : A) (xs : List A) (other : A)
    → ((k : ℕ) → 1 ≤ k → k < length (x ∷ xs) → R (numbered other (x ∷ xs) k) (numbered other (x ∷ xs) (suc k)) ≡ true)
    → (k : ℕ) → 1 ≤ k → k < length xs → R (numbered other xs k) (numbered other xs (suc k)) ≡ true
later_neighbours R x xs other h zero from to = absurd (omega arith)
later_neighbours R x xs other h (suc k) from to = h (suc (suc k)) (omega arith) (omega arith)

pub at_neighbours : {A : Type 0} (R : A → A → Bool) (xs : List A) (other : A)
    → ((k : ℕ) → 1 ≤ k → k < length xs → R (numbered other xs k) (numbered other xs (suc k)) ≡ true) → all_neighbours R xs ≡ true
unfolding all_neighbours
at_neighbours R [] other h = refl
at_neighbours R (x ∷ []) other h = refl
at_neighbours R (x ∷ y ∷ rest) other h =
    true_both (R x y) (all_neighbours R (y ∷ rest))
    (h 1 (omega arith) (omega arith))
    (at_neighbours R (y ∷ rest) other (later_neighbours R x (y ∷ rest) other h))

-- a relation between each entry and each later one
pub pairs_at : {A : Type 0} (R : A → A → Bool) (xs : List A) → all_pairs R xs ≡ true → (other : A) (j k : ℕ) → 1 ≤ j → j < k → k ≤ length xs
    → R (numbered other xs j) (numbered other xs k) ≡ true
unfolding all_pairs
pairs_at R xs h other zero k from before to = absurd (omega arith)
pairs_at R xs h other (suc j) zero from before to = absurd (omega arith)
pairs_at R [] h other (suc j) (suc k) from before to = absurd (omega arith)
pairs_at R (x ∷ xs) h other (suc zero) (suc zero) from before to = absurd (omega arith)
pairs_at R (x ∷ xs) h other (suc zero) (suc (suc k)) from before to =
    let m : IsNumber (suc k) (length xs) = record { from_one = omega arith; at_most = omega arith } in
    test_numbered (R x) xs (both_true (list_all (R x) xs) (all_pairs R xs) h).0 other (suc k) m
pairs_at R (x ∷ xs) h other (suc (suc j)) (suc zero) from before to = absurd (omega arith)
pairs_at R (x ∷ xs) h other (suc (suc j)) (suc (suc k)) from before to =
    pairs_at R xs (both_true (list_all (R x) xs) (all_pairs R xs) h).1 other (suc j) (suc k) (omega arith) (omega arith) (omega arith)

first_pairs : {A : Type 0} (R : A → A → Bool) (x : A) (xs : List A) (other : A)
    → ((j k : ℕ) → 1 ≤ j → j < k → k ≤ length (x ∷ xs) → R (numbered other (x ∷ xs) j) (numbered other (x ∷ xs) k) ≡ true)
    → (k : ℕ) → IsNumber k (length xs) → R x (numbered other xs k) ≡ true
first_pairs R x xs other h zero n = absurd (omega (arith, n.from_one))
first_pairs R x xs other h (suc k) n = h 1 (suc (suc k)) (omega arith) (omega arith) (omega (arith, n.at_most))

later_pairs : {A : Type 0} (R : A → A → Bool) (x : A) (xs : List A) (other : A)
    → ((j k : ℕ) → 1 ≤ j → j < k → k ≤ length (x ∷ xs) → R (numbered other (x ∷ xs) j) (numbered other (x ∷ xs) k) ≡ true)
    → (j k : ℕ) → 1 ≤ j → j < k → k ≤ length xs → R (numbered other xs j) (numbered other xs k) ≡ true
later_pairs R x xs other h zero k from before to = absurd (omega arith)
later_pairs R x xs other h (suc j) zero from before to = absurd (omega arith)
later_pairs R x xs other h (suc j) (suc k) from before to = h (suc (suc j)) (suc (suc k)) (omega arith) (omega arith) (omega arith)

pub at_pairs : {A : Type 0} (R : A → A → Bool) (xs : List A) (other : A)
    → ((j k : ℕ) → 1 ≤ j → j < k → k ≤ length xs → R (numbered other xs j) (numbered other xs k) ≡ true) → all_pairs R xs ≡ true
unfolding all_pairs
at_pairs R [] other h = refl
at_pairs R (x ∷ xs) other h =
    true_both (list_all (R x) xs) (all_pairs R xs)
    (numbered_test (R x) xs other (first_pairs R x xs other h))
    (at_pairs R xs other (later_pairs R x xs other h))

-- entries with one key are one where no two stand in the relation

pub one_of_key : {A B : Type 0} (R : A → A → Bool) (key : A → B) (other : A) (xs : List A) → ((x y : A) → R x y ≡ true → ¬ (key x ≡ key y)) → all_pairs R xs ≡ true
    → (j k : ℕ) → IsNumber j (length xs) → IsNumber k (length xs) → key (numbered other xs j) ≡ key (numbered other xs k) → j ≡ k
one_of_key R key other xs apart h j k m n same =
    ⊎_elim (λ e. e)
    (λ o. ⊎_elim
    (λ l. absurd (apart (numbered other xs j) (numbered other xs k) (pairs_at R xs h other j k m.from_one l n.at_most) same))
    (λ l. absurd (apart (numbered other xs k) (numbered other xs j) (pairs_at R xs h other k j n.from_one l m.at_most) (sym same)))
    o)
    (cases_order j k)

pub key_of_one : {A B : Type 0} (R : A → A → Bool) (key : A → B) (other : A) (xs : List A) → ((x y : A) → ¬ (key x ≡ key y) → R x y ≡ true)
    → ((j k : ℕ) → IsNumber j (length xs) → IsNumber k (length xs) → key (numbered other xs j) ≡ key (numbered other xs k) → j ≡ k) → all_pairs R xs ≡ true
key_of_one R key other xs apart h =
    at_pairs R xs other (λ j k from before to.
    apart (numbered other xs j) (numbered other xs k) (λ same.
    let e : j ≡ k = h j k (record { from_one = from; at_most = omega arith }) (record { from_one = omega arith; at_most = to }) same in
    omega (arith, e)))

-- numbers

pub le_of_test : (x y : ℤ) → int_le x y ≡ true → x ≤ℤ y
le_of_test x y h = grind (arith, ints)

pub test_of_le : (x y : ℤ) → x ≤ℤ y → int_le x y ≡ true
test_of_le x y h = grind (arith, ints)

pub lt_of_test : (x y : ℤ) → int_lt x y ≡ true → x <ℤ y
lt_of_test x y h = grind (arith, ints)

pub test_of_lt : (x y : ℤ) → x <ℤ y → int_lt x y ≡ true
test_of_lt x y h = grind (arith, ints)

pub nat_le_of_test : (m n : ℕ) → nat_le m n ≡ true → m ≤ n
nat_le_of_test m n h = grind (arith, nat_tests)

pub test_of_nat_le : (m n : ℕ) → m ≤ n → nat_le m n ≡ true
test_of_nat_le m n h = grind (arith, nat_tests)

pub nat_eq_of_test : (m n : ℕ) → (m == n) ≡ true → m ≡ n
nat_eq_of_test m n h = grind (arith, nat_tests)

pub test_of_nat_eq : (m n : ℕ) → m ≡ n → (m == n) ≡ true
test_of_nat_eq m n h = grind (arith, nat_tests)

pub between_of_test : (low high x : ℤ) → is_between low high x ≡ true → IsBetween low high x
between_of_test low high x h =
    let b = both_true (int_le low x) (int_le x high) h in
    record { at_least = le_of_test low x b.0; at_most = le_of_test x high b.1 }

pub test_of_between : (low high x : ℤ) → IsBetween low high x → is_between low high x ≡ true
test_of_between low high x h = true_both (int_le low x) (int_le x high) (test_of_le low x h.at_least) (test_of_le x high h.at_most)

pub number_of_test : (i count : ℕ) → RecordFaults.is_number i count ≡ true → IsNumber i count
number_of_test i count h =
    let b = both_true (nat_le 1 i) (nat_le i count) h in
    record { from_one = nat_le_of_test 1 i b.0; at_most = nat_le_of_test i count b.1 }

pub test_of_number : (i count : ℕ) → IsNumber i count → RecordFaults.is_number i count ≡ true
test_of_number i count n = true_both (nat_le 1 i) (nat_le i count) (test_of_nat_le 1 i n.from_one) (test_of_nat_le i count n.at_most)
