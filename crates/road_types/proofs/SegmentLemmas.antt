-- The segment of a station: the station lies in it; and how far from the segment's start the station lies.
use Rattle.std.proofs.Common.{◌≡◌, ℕ, zero, suc, ◌+◌, ◌-◌, ◌≤◌, List, [], ◌∷◌, length, get_or, take, drop, length-drop, arith, refl, sym, subst, Bool, true, false, cond, ◌<◌, ◌⊎◌, inl, inr, ⊎_elim}
use Rattle.std.specs.Prelude.{ℤ, pos, ◌-ℤ◌, ◌≤ℤ◌, ◌<ℤ◌, int_lt, unsigned_abs}
use Rattle.std.proofs.lemmas.Int.{ints}
use Rattle.std.proofs.lemmas.List.{take_all}
use Rattle.road_types.specs.Numbered.{numbered, IsNumber}
use Rattle.road_types.specs.Heights.{knots_before, segment_at, segment_start, segment_length, IsInSegment}
use Rattle.road_types.specs.Road.{segment_count}
use Rattle.road_types.specs.WellFormed.{IsWellFormed, IsOnKnots}
use Rattle.road_types.specs.declared.road.Road.{Road}

-- a knot that lies before a station is counted, and no more are where one doesn't

order_case : (x y : ℤ) (b : Bool) → int_lt x y ≡ b → (x <ℤ y) ⊎ (y ≤ℤ x)
order_case x y true e = inl (grind (arith, ints))
order_case x y false e = inr (grind (arith, ints))

order_cases : (x y : ℤ) → (x <ℤ y) ⊎ (y ≤ℤ x)
order_cases x y = order_case x y (int_lt x y) refl

counted : (knot station : ℤ) (n : ℕ) → knot <ℤ station → cond (int_lt knot station) (suc n) zero ≡ suc n
counted knot station n h = grind (arith, ints)

not_counted : (knot station : ℤ) (n : ℕ) → station ≤ℤ knot → cond (int_lt knot station) (suc n) zero ≡ zero
not_counted knot station n h = grind (arith, ints)

-- the knots that are counted lie before the station
before_station : (station : ℤ) (ends : List ℤ) (j : ℕ) → j < knots_before ends station → get_or ends j (pos 0) <ℤ station
unfolding knots_before
before_station station [] j l = absurd (omega arith)
before_station station (x ∷ ends) zero l =
    ⊎_elim (λ b. b) (λ s. absurd (omega (arith, not_counted x station (knots_before ends station) s))) (order_cases x station)
before_station station (x ∷ ends) (suc j) l =
    ⊎_elim
    (λ b. before_station station ends j (omega (arith, counted x station (knots_before ends station) b)))
    (λ s. absurd (omega (arith, not_counted x station (knots_before ends station) s)))
    (order_cases x station)

-- the first that isn't counted lies at the station or after it
at_station : (station : ℤ) (ends : List ℤ) → knots_before ends station < length ends → station ≤ℤ get_or ends (knots_before ends station) (pos 0)
unfolding knots_before
at_station station [] l = absurd (omega arith)
at_station station (x ∷ ends) l =
    ⊎_elim
    (λ b. let e = counted x station (knots_before ends station) b in
    subst (λ (k : ℕ). station ≤ℤ get_or (x ∷ ends) k (pos 0)) (sym e) (at_station station ends (omega (arith, e))))
    (λ s. let e = not_counted x station (knots_before ends station) s in
    subst (λ (k : ℕ). station ≤ℤ get_or (x ∷ ends) k (pos 0)) (sym e) s)
    (order_cases x station)

one_more : (b : Bool) (n m : ℕ) → suc n ≤ m → cond b (suc n) 0 ≤ m
one_more true n m h = h
one_more false n m h = omega arith

-- not all of some knots lie before a station that is at most the last of them
last_covers : (station x : ℤ) (rest : List ℤ) → station ≤ℤ get_or (x ∷ rest) (length rest) (pos 0) → knots_before (x ∷ rest) station ≤ length rest
unfolding knots_before
last_covers station x [] h = omega (arith, not_counted x station 0 h)
last_covers station x (y ∷ rest) h = one_more (int_lt x station) (knots_before (y ∷ rest) station) (suc (length rest)) (omega (arith, last_covers station y rest h))

start_of : (start : ℤ) (ends : List ℤ) (station : ℤ) → start ≤ℤ station → (k : ℕ) → k ≡ knots_before ends station
    → (segment_start (start ∷ ends) (suc k) <ℤ station) ⊎ ((suc k ≡ 1) × (station ≡ start))
start_of start ends station from zero e = ⊎_elim (λ b. inl b) (λ s. inr (refl, omega (arith, ints, s, from))) (order_cases start station)
start_of start ends station from (suc j) e = inl (before_station station ends j (omega arith))

-- a station between the first and the last of some knots lies in its segment
in_segment_of : (start : ℤ) (ends : List ℤ) (station : ℤ) → start ≤ℤ station → knots_before ends station < length ends → IsInSegment (start ∷ ends) (suc (knots_before ends station)) station
in_segment_of start ends station from few =
    record {
      number = record { from_one = omega arith; at_most = omega arith };
      after_start = start_of start ends station from (knots_before ends station) refl;
      to_end = at_station station ends few;
    }

pub in_segment : (knots : List ℤ) (station : ℤ) → 2 ≤ length knots → numbered (pos 0) knots 1 ≤ℤ station → station ≤ℤ numbered (pos 0) knots (suc (length knots - 1))
    → IsInSegment knots (segment_at knots station) station
in_segment [] station some from to = absurd (omega arith)
in_segment (start ∷ []) station some from to = absurd (omega arith)
in_segment (start ∷ x ∷ rest) station some from to =
    let e : length (start ∷ x ∷ rest) - 1 ≡ suc (length rest) = omega arith in
    let last : station ≤ℤ get_or (x ∷ rest) (length rest) (pos 0) = subst (λ (k : ℕ). station ≤ℤ get_or (start ∷ x ∷ rest) k (pos 0)) e to in
    let few = last_covers station x rest last in
    in_segment_of start (x ∷ rest) station from (omega arith)

-- and as code counts the knots
pub segment_number : (knots : List ℤ) (station : ℤ) → 2 ≤ length knots → segment_at knots station ≡ 1 + knots_before (drop 1 knots) station
segment_number [] station some = absurd (omega arith)
segment_number (start ∷ ends) station some = omega arith

-- all but the first, as code cuts them off
pub all_but_first : (xs : List ℤ) → take (length xs - 1) (drop 1 xs) ≡ drop 1 xs
all_but_first xs = take_all (length xs - 1) (drop 1 xs) (omega (arith, length-drop 1 xs))

-- a station between the knots lies at most 100000 steps from any of them
pub station_span : (road : Road) (station : ℤ) (g : ℕ) → IsWellFormed road → IsOnKnots road station → IsNumber g (segment_count road) → unsigned_abs (station -ℤ segment_start road.knots g) ≤ 100000
station_span road station g ok on number =
    let first = ok.knots_in_range 1 (record { from_one = omega arith; at_most = omega (arith, ok.counted.knots_from) }) in
    let last = ok.knots_in_range (suc (segment_count road)) (record { from_one = omega arith; at_most = omega (arith, ok.counted.knots_from) }) in
    let here = ok.knots_in_range g (record { from_one = number.from_one; at_most = omega (arith, number.at_most) }) in
    omega (arith, ints, first.at_least, last.at_most, here.at_least, here.at_most, on.after_first, on.before_last)

-- a segment is at most 100000 steps long
pub segment_span : (road : Road) (g : ℕ) → IsWellFormed road → IsNumber g (segment_count road) → unsigned_abs (segment_length road.knots g) ≤ 100000
segment_span road g ok number =
    let start = ok.knots_in_range g (record { from_one = number.from_one; at_most = omega (arith, number.at_most) }) in
    let end = ok.knots_in_range (suc g) (record { from_one = omega arith; at_most = omega (arith, number.at_most) }) in
    omega (arith, ints, start.at_least, start.at_most, end.at_least, end.at_most)
