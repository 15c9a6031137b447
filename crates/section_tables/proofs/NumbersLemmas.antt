-- A number within a range is one of 64 bits.
use Rattle.std.proofs.Common.{◌≡◌, ℤ, ◌≤ℤ◌, pos, neg_ℤ, List, ℕ, Option, Some, None, Err, Bool, true, false, refl, arith}
use Rattle.std.proofs.lemmas.Int.{ints}
use Rattle.text_parts.specs.Decimal.{whole_of}
use Rattle.road_types.specs.RecordFaults.{is_between, is_station, is_height, is_measure, is_cost, is_cap}
use Rattle.road_types.proofs.Acceptance.{between_of_test, test_of_between}
use Rattle.section_tables.specs.declared.error.TableErr.{TableErr}
use Rattle.section_tables.specs.declared.error.TableErr.TheVariants.{Refused, NoMemory}
use Rattle.section_tables.specs.Steps.{◌>>=◌, where_kept, MayAnswer}
use Rattle.section_tables.specs.Cells.{number_in}
use Rattle.section_tables.specs.inside.Narrow.{is_narrow}

abbrev least : ℤ
least = neg_ℤ (pos 9223372036854775808)

abbrev greatest : ℤ
greatest = pos 9223372036854775807

-- a test that only numbers of 64 bits pass
abbrev pub OnlyNarrow : (ℤ → Bool) → Type 0
OnlyNarrow test = (x : ℤ) → test x ≡ true → is_narrow x ≡ true

between_narrow : (low high : ℤ) → least ≤ℤ low → high ≤ℤ greatest → OnlyNarrow (is_between low high)
between_narrow low high l h x e =
    let b = between_of_test low high x e in
    test_of_between least greatest x (record { at_least = omega (arith, ints, l, b.at_least); at_most = omega (arith, ints, h, b.at_most) })

kept_is : (b : Bool) (m n : ℤ) → where_kept b m ≡ Some n → m ≡ n
kept_is true m n e = cc
kept_is false m n e = cc

found : (test : ℤ → Bool) (o : Option ℤ) (n : ℤ) → o >>= (λ m. where_kept (is_narrow m) m) ≡ Some n → o >>= (λ m. where_kept (test m) m) ≡ where_kept (test n) n
found test None n e = cc
found test (Some m) n e = rw (kept_is (is_narrow m) m n e)

dropped : (wide narrow : Bool) (n : ℤ) → (wide ≡ true → narrow ≡ true) → where_kept narrow n ≡ None → where_kept wide n ≡ None
dropped true true n only e = cc
dropped true false n only e = cc (only refl)
dropped false narrow n only e = refl

missed : (test : ℤ → Bool) → OnlyNarrow test → (o : Option ℤ) → o >>= (λ m. where_kept (is_narrow m) m) ≡ None → o >>= (λ m. where_kept (test m) m) ≡ None
missed test only None e = refl
missed test only (Some m) e = dropped (test m) (is_narrow m) m (only m) e

-- a number of 64 bits, and then the test
pub narrow_first : (test : ℤ → Bool) (cell : List ℕ) (n : ℤ) → number_in is_narrow cell ≡ Some n → number_in test cell ≡ where_kept (test n) n
unfolding number_in
narrow_first test cell n e = found test (whole_of cell) n e

-- what isn't one of 64 bits passes no test
pub not_narrow : (test : ℤ → Bool) → OnlyNarrow test → (cell : List ℕ) → number_in is_narrow cell ≡ None → number_in test cell ≡ None
unfolding number_in
not_narrow test only cell e = missed test only (whole_of cell) e

-- the same of an answer that gives up
refused_too : (test : ℤ → Bool) → OnlyNarrow test → (cell : List ℕ) (e : TableErr) → MayAnswer {A = ℤ} (Err e) (number_in is_narrow cell) → MayAnswer {A = ℤ} (Err e) (number_in test cell)
refused_too test only cell Refused h = not_narrow test only cell h
refused_too test only cell NoMemory h = tt

pub stations : (cell : List ℕ) (e : TableErr) → MayAnswer {A = ℤ} (Err e) (number_in is_narrow cell) → MayAnswer {A = ℤ} (Err e) (number_in is_station cell)
stations cell e h = refused_too is_station (between_narrow (pos 0) (pos 100000) (omega (arith, ints)) (omega (arith, ints))) cell e h

pub heights : (cell : List ℕ) (e : TableErr) → MayAnswer {A = ℤ} (Err e) (number_in is_narrow cell) → MayAnswer {A = ℤ} (Err e) (number_in is_height cell)
heights cell e h = refused_too is_height (between_narrow (neg_ℤ (pos 10000000)) (pos 10000000) (omega (arith, ints)) (omega (arith, ints))) cell e h

pub measures : (cell : List ℕ) (e : TableErr) → MayAnswer {A = ℤ} (Err e) (number_in is_narrow cell) → MayAnswer {A = ℤ} (Err e) (number_in is_measure cell)
measures cell e h = refused_too is_measure (between_narrow (neg_ℤ (pos 10000000)) (pos 10000000) (omega (arith, ints)) (omega (arith, ints))) cell e h

pub costs : (cell : List ℕ) (e : TableErr) → MayAnswer {A = ℤ} (Err e) (number_in is_narrow cell) → MayAnswer {A = ℤ} (Err e) (number_in is_cost cell)
costs cell e h = refused_too is_cost (between_narrow (pos 0) (pos 1000000) (omega (arith, ints)) (omega (arith, ints))) cell e h

pub caps : (cell : List ℕ) (e : TableErr) → MayAnswer {A = ℤ} (Err e) (number_in is_narrow cell) → MayAnswer {A = ℤ} (Err e) (number_in is_cap cell)
caps cell e h = refused_too is_cap (between_narrow (pos 0) (pos 100000000000000) (omega (arith, ints)) (omega (arith, ints))) cell e h
