-- The zones of a stage's ordinates: those that are listed are all, in order, and each hop with an ordinate lies in exactly one.
use Rattle.std.proofs.Common.{◌≡◌, ◌⊎◌, inl, inr, ⊎_elim, ℕ, zero, suc, ◌+◌, ◌-◌, ◌≤◌, ◌<◌, Bool, true, false, List, [], ◌∷◌, ◌++◌, arith, refl, sym, ap, subst, ◌∙◌}
use Rattle.std.specs.Prelude.{◌≢◌, max, ◌&&◌, ◌||◌, if◌then◌else◌, IsTrue, Option, Some, None, ℤ, pos, int_lt, unsigned_abs}
use Rattle.std.proofs.lemmas.Bool.{false≢true, true≢false, cases_lt, false_from_ne_true}
use Rattle.std.proofs.lemmas.Int.{ints}
use Rattle.algebra.specs.Lists.{flat_to}
use Rattle.road_types.specs.Numbered.{IsNumber}
use Rattle.report.specs.Mass.{goes, same_way, direction_of, first_of, peak_of, Zone, IsInZone, IsZone, zone_in, zones_at, zones_of, Lists, AreInOrder, AreZones}
use Rattle.report.specs.declared.zones.Direction.{Direction}
use Rattle.report.specs.declared.zones.Direction.TheVariants.{ToRight, ToLeft}

-- ---- directions

not_zero : (d : Direction) (x : ℤ) → x ≡ pos 0 → goes d x ≡ false
not_zero ToRight x e = rw e refl
not_zero ToLeft x e = rw e refl

left_not : (x : ℤ) → goes ToRight x ≡ true → goes ToLeft x ≡ false
left_not x p = false_from_ne_true (goes ToLeft x) (λ q. omega (arith, ints))

right_not : (x : ℤ) → goes ToLeft x ≡ true → goes ToRight x ≡ false
right_not x p = false_from_ne_true (goes ToRight x) (λ q. omega (arith, ints))

one_direction : (d e : Direction) (x : ℤ) → goes d x ≡ true → goes e x ≡ true → d ≡ e
one_direction ToRight ToRight x p q = refl
one_direction ToLeft ToLeft x p q = refl
one_direction ToRight ToLeft x p q = absurd (false≢true (sym (left_not x p) ∙ q))
one_direction ToLeft ToRight x p q = absurd (false≢true (sym (left_not x q) ∙ p))

or_false : (b : Bool) → (b || false) ≡ b
or_false true = refl
or_false false = refl

and_true : (b : Bool) → (b && true) ≡ b
and_true true = refl
and_true false = refl

and_false : (b : Bool) → (b && false) ≡ false
and_false true = refl
and_false false = refl

both_ways : (a b c e p q r s : Bool) → a ≡ p → b ≡ q → c ≡ r → e ≡ s → ((a && b) || (c && e)) ≡ ((p && q) || (r && s))
both_ways a b c e p q r s i j k l = rw (i, j, k, l) refl

-- the second of two ordinates, where the first one has a direction
way_on : (d : Direction) (x y : ℤ) → goes d x ≡ true → same_way x y ≡ goes d y
way_on ToRight x y p = both_ways (goes ToRight x) (goes ToRight y) (goes ToLeft x) (goes ToLeft y) true (goes ToRight y) false (goes ToLeft y) p refl (left_not x p) refl ∙ or_false (goes ToRight y)
way_on ToLeft x y p = both_ways (goes ToRight x) (goes ToRight y) (goes ToLeft x) (goes ToLeft y) false (goes ToRight y) true (goes ToLeft y) (right_not x p) refl p refl

-- the first one, where the second one has a direction
way_back : (d : Direction) (x y : ℤ) → goes d y ≡ true → same_way x y ≡ goes d x
way_back ToRight x y p =
    both_ways (goes ToRight x) (goes ToRight y) (goes ToLeft x) (goes ToLeft y) (goes ToRight x) true (goes ToLeft x) false refl p refl (left_not y p)
    ∙ ap (λ b. (goes ToRight x && true) || b) (and_false (goes ToLeft x)) ∙ or_false (goes ToRight x && true) ∙ and_true (goes ToRight x)
way_back ToLeft x y p =
    both_ways (goes ToRight x) (goes ToRight y) (goes ToLeft x) (goes ToLeft y) (goes ToRight x) false (goes ToLeft x) true refl (right_not y p) refl p
    ∙ ap (λ b. b || (goes ToLeft x && true)) (and_false (goes ToRight x)) ∙ and_true (goes ToLeft x)

direction_by : (x : ℤ) (d : Direction) (a b : Bool) → goes ToRight x ≡ a → goes ToLeft x ≡ b → (if a then Some ToRight else if b then Some ToLeft else None) ≡ Some d → goes d x ≡ true
direction_by x d true b p q e = let same : ToRight ≡ d = cc in subst (λ (c : Direction). goes c x ≡ true) same p
direction_by x d false true p q e = let same : ToLeft ≡ d = cc in subst (λ (c : Direction). goes c x ≡ true) same q
direction_by x d false false p q e = cc

has_direction : (x : ℤ) (d : Direction) → direction_of x ≡ Some d → goes d x ≡ true
has_direction x d e = direction_by x d (goes ToRight x) (goes ToLeft x) refl refl e

direction_is : (x : ℤ) (d : Direction) → goes d x ≡ true → direction_of x ≡ Some d
direction_is x ToRight p = rw p refl
direction_is x ToLeft p = rw (right_not x p, p) refl

some_way : (x : ℤ) (a b : Bool) → goes ToRight x ≡ a → goes ToLeft x ≡ b → x ≢ pos 0 → (d : Direction) × (goes d x ≡ true)
some_way x true b p q n = (ToRight, p)
some_way x false true p q n = (ToLeft, q)
some_way x false false p q n = absurd (n (omega (arith, ints)))

-- ---- the hops of one direction up to a hop

record IsRun (o : ℕ → ℤ) (d : Direction) (h first peak : ℕ) : Type 0 where
  pub from_one : 1 ≤ first
  pub some : first ≤ h
  pub one_way : (k : ℕ) → first ≤ k → k ≤ h → goes d (o k) ≡ true
  pub before : goes d (o (first - 1)) ≡ false
  pub greatest : (k : ℕ) → first ≤ k → k ≤ h → unsigned_abs (o k) ≤ peak
  pub reached : (k : ℕ) × (first ≤ k) × (k ≤ h) × (unsigned_abs (o k) ≡ peak)

-- a fact of all hops up to h and of the next one
up_to_next : (P : ℕ → Type 0) (first h : ℕ) → ((k : ℕ) → first ≤ k → k ≤ h → P k) → P (suc h) → (k : ℕ) → first ≤ k → k ≤ suc h → P k
up_to_next P first h each last k low high = ⊎_elim (λ (l : k < suc h). each k low (omega arith)) (λ (l : suc h ≤ k). let e : suc h ≡ k = omega arith in subst P e last) (cases_lt k (suc h))

at_most_max : (P : ℕ → ℕ) (first h peak : ℕ) → ((k : ℕ) → first ≤ k → k ≤ h → P k ≤ peak) → (k : ℕ) → first ≤ k → k ≤ h → P k ≤ max peak (P (suc h))
at_most_max P first h peak each k low high = let one = each k low high in omega (arith, one)

max_reached : (P : ℕ → ℕ) (first h peak : ℕ) → first ≤ h → (k : ℕ) × (first ≤ k) × (k ≤ h) × (P k ≡ peak) → (k : ℕ) × (first ≤ k) × (k ≤ suc h) × (P k ≡ max peak (P (suc h)))
max_reached P first h peak some r = ⊎_elim
    (λ (l : P (suc h) < peak). let is : P r.0 ≡ max peak (P (suc h)) = omega (arith, r.3) in (r.0, r.1, omega (arith, r.2), is))
    (λ (l : peak ≤ P (suc h)). let is : P (suc h) ≡ max peak (P (suc h)) = omega arith in (suc h, omega arith, omega arith, is))
    (cases_lt (P (suc h)) peak)

next_run : (o : ℕ → ℤ) (d : Direction) (h : ℕ) → goes d (o (suc h)) ≡ true → (goes d (o h) ≡ true → IsRun o d h (first_of o h) (peak_of o h))
    → (b : Bool) → goes d (o h) ≡ b
    → IsRun o d (suc h) (if b then first_of o h else suc h) (if b then max (peak_of o h) (unsigned_abs (o (suc h))) else unsigned_abs (o (suc h)))
next_run o d h p before true q =
    let r = before q in
    let first = first_of o h in
    record {
      from_one = r.from_one;
      some = omega (arith, r.some);
      one_way = up_to_next (λ k. goes d (o k) ≡ true) first h r.one_way p;
      before = r.before;
      greatest = up_to_next (λ k. unsigned_abs (o k) ≤ max (peak_of o h) (unsigned_abs (o (suc h)))) first h
          (at_most_max (λ k. unsigned_abs (o k)) first h (peak_of o h) r.greatest) (omega arith);
      reached = max_reached (λ k. unsigned_abs (o k)) first h (peak_of o h) r.some r.reached;
    }
next_run o d h p before false q =
    let none : (k : ℕ) → suc h ≤ k → k ≤ h → ⊥ = λ k low high. omega arith in
    let e : suc h - 1 ≡ h = omega arith in
    record {
      from_one = omega arith;
      some = omega arith;
      one_way = up_to_next (λ k. goes d (o k) ≡ true) (suc h) h (λ k low high. absurd (none k low high)) p;
      before = ap (λ k. goes d (o k)) e ∙ q;
      greatest = up_to_next (λ k. unsigned_abs (o k) ≤ unsigned_abs (o (suc h))) (suc h) h (λ k low high. absurd (none k low high)) (omega arith);
      reached = (suc h, omega arith, omega arith, refl);
    }

run : (o : ℕ → ℤ) → o 0 ≡ pos 0 → (d : Direction) (h : ℕ) → goes d (o h) ≡ true → IsRun o d h (first_of o h) (peak_of o h)
run o origin d zero p = absurd (false≢true (sym (not_zero d (o 0) origin) ∙ p))
run o origin d (suc h) p =
    subst (λ (b : Bool). IsRun o d (suc h) (if b then first_of o h else suc h) (if b then max (peak_of o h) (unsigned_abs (o (suc h))) else unsigned_abs (o (suc h))))
    (sym (way_back d (o h) (o (suc h)) p)) (next_run o d h p (λ q. run o origin d h q) (goes d (o h)) refl)

-- ---- the zone that ends with a hop

abbrev zone_to : (ℕ → ℤ) → Direction → ℕ → Zone
zone_to o d h = record { first = first_of o h; last = h; direction = d; peak = peak_of o h }

ended_zone : (o : ℕ → ℤ) → o 0 ≡ pos 0 → (count : ℕ) (d : Direction) (h : ℕ) → h ≤ count → goes d (o h) ≡ true → goes d (o (h + 1)) ≡ false → IsZone o count (zone_to o d h)
ended_zone o origin count d h within p q =
    let r = run o origin d h p in
    record {
      from_one = r.from_one;
      some = r.some;
      at_most = within;
      one_way = λ k n. r.one_way k n.from_first n.to_last;
      before = λ g. false≢true (sym r.before ∙ g);
      after = λ g. false≢true (sym q ∙ g);
      greatest = λ k n. r.greatest k n.from_first n.to_last;
      reached = (r.reached.0, record { from_first = r.reached.1; to_last = r.reached.2 }, r.reached.3);
    }

zone_by : (o : ℕ → ℤ) → o 0 ≡ pos 0 → (count h : ℕ) → h ≤ count → (s : Bool) (dir : Option Direction) → same_way (o h) (o (h + 1)) ≡ s → direction_of (o h) ≡ dir → (zone : Zone)
    → Lists (if s then [] else zone_in dir (first_of o h) h (peak_of o h)) zone → IsZone o count zone × (zone.last ≡ h)
zone_by o origin count h within true dir e f zone l = absurd l
zone_by o origin count h within false None e f zone l = absurd l
zone_by o origin count h within false (Some d) e f zone (inr l) = absurd l
zone_by o origin count h within false (Some d) e f zone (inl is) =
    let p = has_direction (o h) d f in
    let z = ended_zone o origin count d h within p (sym (way_on d (o h) (o (h + 1)) p) ∙ e) in
    subst (λ (z : Zone). IsZone o count z × (z.last ≡ h)) is (z, refl)

zone_at : (o : ℕ → ℤ) → o 0 ≡ pos 0 → (count h : ℕ) → h ≤ count → (zone : Zone) → Lists (zones_at o h) zone → IsZone o count zone × (zone.last ≡ h)
zone_at o origin count h within zone l = zone_by o origin count h within (same_way (o h) (o (h + 1))) (direction_of (o h)) refl refl zone l

-- ---- two zones

in_zone : (zone : Zone) (h : ℕ) → zone.first ≤ h → h ≤ zone.last → IsInZone zone h
in_zone zone h low high = record { from_first = low; to_last = high }

first_least : (o : ℕ → ℤ) (count : ℕ) (a b : Zone) → IsZone o count a → IsZone o count b → a.direction ≡ b.direction → b.first ≤ a.last → a.first < b.first → ⊥
first_least o count a b p q same meet less =
    let there = p.one_way (b.first - 1) (in_zone a (b.first - 1) (omega arith) (omega arith)) in
    q.before (subst (λ (d : Direction). IsTrue (goes d (o (b.first - 1)))) same there)

last_greatest : (o : ℕ → ℤ) (count : ℕ) (a b : Zone) → IsZone o count a → IsZone o count b → a.direction ≡ b.direction → b.first ≤ a.last → a.last < b.last → ⊥
last_greatest o count a b p q same meet less =
    let there = q.one_way (a.last + 1) (in_zone b (a.last + 1) (omega arith) (omega arith)) in
    p.after (subst (λ (d : Direction). IsTrue (goes d (o (a.last + 1)))) (sym same) there)

peak_at_most : (o : ℕ → ℤ) (count : ℕ) (a b : Zone) → IsZone o count a → IsZone o count b → a.first ≡ b.first → a.last ≡ b.last → a.peak ≤ b.peak
peak_at_most o count a b p q firsts lasts =
    let at = p.reached.1 in
    let most = q.greatest p.reached.0 (in_zone b p.reached.0 (omega (arith, at.from_first)) (omega (arith, at.to_last))) in
    omega (arith, most, p.reached.2)

same_record : (a b : Zone) → a.first ≡ b.first → a.last ≡ b.last → a.direction ≡ b.direction → a.peak ≡ b.peak → a ≡ b
same_record a b p q r s = λ i. record { first = p i; last = q i; direction = r i; peak = s i }

equal_from : (n m : ℕ) → (n < m → ⊥) → (m < n → ⊥) → n ≡ m
equal_from n m p q = ⊎_elim (λ (l : n < m). absurd (p l)) (λ (l : m ≤ n). ⊎_elim (λ (k : m < n). absurd (q k)) (λ (k : n ≤ m). omega arith) (cases_lt m n)) (cases_lt n m)

one_zone : (o : ℕ → ℤ) (count h : ℕ) (a b : Zone) → IsZone o count a → IsZone o count b → IsInZone a h → IsInZone b h → a ≡ b
one_zone o count h a b p q i j =
    let same = one_direction a.direction b.direction (o h) (p.one_way h i) (q.one_way h j) in
    let b_meets : b.first ≤ a.last = omega (arith, i.to_last, j.from_first) in
    let a_meets : a.first ≤ b.last = omega (arith, i.from_first, j.to_last) in
    let firsts = equal_from a.first b.first (first_least o count a b p q same b_meets) (first_least o count b a q p (sym same) a_meets) in
    let lasts = equal_from a.last b.last (last_greatest o count a b p q same b_meets) (last_greatest o count b a q p (sym same) a_meets) in
    let less = peak_at_most o count a b p q firsts lasts in
    let more = peak_at_most o count b a q p (sym firsts) (sym lasts) in
    same_record a b firsts lasts same (omega (arith, less, more))

-- a zone whose last hop comes before another's lies before it
before_other : (o : ℕ → ℤ) (count : ℕ) (a b : Zone) → IsZone o count a → IsZone o count b → a.last < b.last → a.last < b.first
before_other o count a b p q less = ⊎_elim (λ (l : a.last < b.first). l) (λ (l : b.first ≤ a.last).
    let here_a = p.one_way a.last (in_zone a a.last p.some (omega arith)) in
    let here_b = q.one_way a.last (in_zone b a.last l (omega arith)) in
    let same = one_direction a.direction b.direction (o a.last) here_a here_b in
    absurd (last_greatest o count a b p q same l less)) (cases_lt a.last b.first)

-- ---- the list

in_left : (xs ys : List Zone) (zone : Zone) → Lists xs zone → Lists (xs ++ ys) zone
in_left [] ys zone l = absurd l
in_left (x ∷ xs) ys zone (inl is) = inl is
in_left (x ∷ xs) ys zone (inr l) = inr (in_left xs ys zone l)

in_right : (xs ys : List Zone) (zone : Zone) → Lists ys zone → Lists (xs ++ ys) zone
in_right [] ys zone l = l
in_right (x ∷ xs) ys zone l = inr (in_right xs ys zone l)

in_either : (xs ys : List Zone) (zone : Zone) → Lists (xs ++ ys) zone → Lists xs zone ⊎ Lists ys zone
in_either [] ys zone l = inr l
in_either (x ∷ xs) ys zone (inl is) = inl (inl is)
in_either (x ∷ xs) ys zone (inr l) = ⊎_elim (λ (k : Lists xs zone). inl (inr k)) (λ (k : Lists ys zone). inr k) (in_either xs ys zone l)

order_both : (xs ys : List Zone) → AreInOrder xs → AreInOrder ys → ((x y : Zone) → Lists xs x → Lists ys y → x.last < y.first) → AreInOrder (xs ++ ys)
order_both [] ys p q cross = q
order_both (x ∷ xs) ys p q cross = (
  (λ other l. ⊎_elim (λ (k : Lists xs other). p.0 other k) (λ (k : Lists ys other). cross x other (inl refl) k) (in_either xs ys other l)),
  order_both xs ys p.1 q (λ a b k l. cross a b (inr k) l),
)

order_in : (dir : Option Direction) (first last peak : ℕ) → AreInOrder (zone_in dir first last peak)
order_in None first last peak = tt
order_in (Some d) first last peak = ((λ other l. absurd l), tt)

order_by : (s : Bool) (zones : List Zone) → AreInOrder zones → AreInOrder (if s then [] else zones)
order_by true zones h = tt
order_by false zones h = h

order_at : (o : ℕ → ℤ) (h : ℕ) → AreInOrder (zones_at o h)
order_at o h =
    order_by (same_way (o h) (o (h + 1))) (zone_in (direction_of (o h)) (first_of o h) h (peak_of o h)) (order_in (direction_of (o h)) (first_of o h) h (peak_of o h))

each_zone : (o : ℕ → ℤ) → o 0 ≡ pos 0 → (count n : ℕ) → n ≤ count → (zone : Zone) → Lists (zones_of o n) zone → IsZone o count zone × (zone.last ≤ n)
each_zone o origin count zero within zone l = absurd l
each_zone o origin count (suc n) within zone l = ⊎_elim
    (λ (k : Lists (zones_of o n) zone). let z = each_zone o origin count n (omega arith) zone k in (z.0, omega (arith, z.1)))
    (λ (k : Lists (zones_at o (suc n)) zone). let z = zone_at o origin count (suc n) within zone k in (z.0, omega (arith, z.1)))
    (in_either (zones_of o n) (zones_at o (suc n)) zone l)

all_in_order : (o : ℕ → ℤ) → o 0 ≡ pos 0 → (count n : ℕ) → n ≤ count → AreInOrder (zones_of o n)
all_in_order o origin count zero within = tt
all_in_order o origin count (suc n) within =
    order_both (zones_of o n) (zones_at o (suc n)) (all_in_order o origin count n (omega arith)) (order_at o (suc n)) (λ x y k l.
    let a = each_zone o origin count n (omega arith) x k in
    let b = zone_at o origin count (suc n) within y l in
    before_other o count x y a.0 b.0 (omega (arith, a.1, b.1)))

listed_at : (o : ℕ → ℤ) (h n : ℕ) (zone : Zone) → 1 ≤ h → h ≤ n → Lists (zones_at o h) zone → Lists (zones_of o n) zone
listed_at o h zero zone low high l = absurd (omega arith)
listed_at o h (suc n) zone low high l = ⊎_elim
    (λ (k : h < suc n). in_left (zones_of o n) (zones_at o (suc n)) zone (listed_at o h n zone low (omega arith) l))
    (λ (k : suc n ≤ h). let e : h ≡ suc n = omega arith in in_right (zones_of o n) (zones_at o (suc n)) zone (subst (λ (j : ℕ). Lists (zones_at o j) zone) e l))
    (cases_lt h (suc n))

listed_by : (o : ℕ → ℤ) (h : ℕ) (d : Direction) (zone : Zone) (s : Bool) (dir : Option Direction) → s ≡ false → dir ≡ Some d → zone_to o d h ≡ zone
    → Lists (if s then [] else zone_in dir (first_of o h) h (peak_of o h)) zone
listed_by o h d zone true dir e f is = absurd (true≢false e)
listed_by o h d zone false None e f is = cc
listed_by o h d zone false (Some c) e f is =
    let same : d ≡ c = cc in
    subst (λ (x : Direction). Lists (zone_in (Some x) (first_of o h) h (peak_of o h)) zone) same (inl is)

every_zone : (o : ℕ → ℤ) → o 0 ≡ pos 0 → (count : ℕ) (zone : Zone) → IsZone o count zone → Lists (zones_of o count) zone
every_zone o origin count zone z =
    let h = zone.last in
    let d = zone.direction in
    let p = z.one_way h (in_zone zone h z.some (omega arith)) in
    let past = false_from_ne_true (goes d (o (h + 1))) z.after in
    let ended = ended_zone o origin count d h z.at_most p past in
    let same = one_zone o count h (zone_to o d h) zone ended z (in_zone (zone_to o d h) h ended.some (omega arith)) (in_zone zone h z.some (omega arith)) in
    listed_at o h count zone (omega (arith, z.from_one, z.some)) z.at_most
    (listed_by o h d zone (same_way (o h) (o (h + 1))) (direction_of (o h)) (way_on d (o h) (o (h + 1)) p ∙ past) (direction_is (o h) d p) same)

-- ---- each hop with an ordinate lies in a zone

record HasEnd (o : ℕ → ℤ) (count : ℕ) (d : Direction) (h : ℕ) : Type 0 where
  pub last : ℕ
  pub low : h ≤ last
  pub high : last ≤ count
  pub one_way : (k : ℕ) → h ≤ k → k ≤ last → goes d (o k) ≡ true
  pub past : goes d (o (last + 1)) ≡ false

at_itself : (o : ℕ → ℤ) (d : Direction) (h : ℕ) → goes d (o h) ≡ true → (k : ℕ) → h ≤ k → k ≤ h → goes d (o k) ≡ true
at_itself o d h p k low high = let e : h ≡ k = omega arith in subst (λ (j : ℕ). goes d (o j) ≡ true) e p

end_by : (o : ℕ → ℤ) (count : ℕ) (d : Direction) (h : ℕ) → h ≤ count → goes d (o h) ≡ true → (b : Bool) → goes d (o (h + 1)) ≡ b → (goes d (o (h + 1)) ≡ true → HasEnd o count d (h + 1)) → HasEnd o count d h
end_by o count d h within p false q next = record { last = h; low = omega arith; high = within; one_way = at_itself o d h p; past = q }
end_by o count d h within p true q next =
    let e = next q in
    record {
      last = e.last;
      low = omega (arith, e.low);
      high = e.high;
      one_way = λ k low high. ⊎_elim (λ (l : h < k). e.one_way k (omega arith) high) (λ (l : k ≤ h). at_itself o d h p k low l) (cases_lt h k);
      past = e.past;
    }

has_end : (o : ℕ → ℤ) (count : ℕ) → o (count + 1) ≡ pos 0 → (d : Direction) (n h : ℕ) → h + n ≡ count → goes d (o h) ≡ true → HasEnd o count d h
has_end o count outside d zero h e p =
    let same : h + 1 ≡ count + 1 = omega (arith, e) in
    record { last = h; low = omega arith; high = omega (arith, e); one_way = at_itself o d h p; past = not_zero d (o (h + 1)) (ap o same ∙ outside) }
has_end o count outside d (suc n) h e p = end_by o count d h (omega (arith, e)) p (goes d (o (h + 1))) refl (λ q. has_end o count outside d n (h + 1) (omega (arith, e)) q)

in_some_zone : (o : ℕ → ℤ) → o 0 ≡ pos 0 → (count : ℕ) (d : Direction) (h : ℕ) → 1 ≤ h → HasEnd o count d h → (zone : Zone) × IsZone o count zone × IsInZone zone h
in_some_zone o origin count d h from_one e =
    let p = e.one_way e.last e.low (omega arith) in
    let z = ended_zone o origin count d e.last e.high p e.past in
    let first = first_of o e.last in
    let low : first ≤ h = ⊎_elim (λ (l : h < first). absurd (z.before (e.one_way (first - 1) (omega arith) (omega (arith, z.some))))) (λ (l : first ≤ h). l) (cases_lt h first) in
    (zone_to o d e.last, z, record { from_first = low; to_last = e.low })

hop_covered : (o : ℕ → ℤ) → o 0 ≡ pos 0 → (count : ℕ) → o (count + 1) ≡ pos 0 → (h : ℕ) → IsNumber h count → o h ≢ pos 0 → (zone : Zone) × IsZone o count zone × IsInZone zone h
hop_covered o origin count outside h n moved =
    let way = some_way (o h) (goes ToRight (o h)) (goes ToLeft (o h)) refl refl moved in
    in_some_zone o origin count way.0 h n.from_one (has_end o count outside way.0 (count - h) h (omega (arith, n.at_most)) way.1)

-- where nothing goes over hops 0 and count + 1
pub are_zones : (o : ℕ → ℤ) (count : ℕ) → o 0 ≡ pos 0 → o (count + 1) ≡ pos 0 → AreZones o count (zones_of o count)
are_zones o count origin outside = record {
  each = λ zone l. (each_zone o origin count count (omega arith) zone l).0;
  all = every_zone o origin count;
  in_order = all_in_order o origin count count (omega arith);
  covered = hop_covered o origin count outside;
  once = λ h a b p q i j. one_zone o count h a b p q i j;
}
