-- The trial road of every number is well formed.
use Rattle.std.proofs.Common.{◌≡◌, ℕ, zero, suc, ◌+◌, ◌-◌, ◌/◌, ◌%◌, ◌<◌, ◌≤◌, true, List, [], ◌∷◌, get_or, arith, ap, sym, subst, ◌∙◌, refl}
use Rattle.std.specs.Prelude.{pos, ◌-ℤ◌, ◌<ℤ◌, replicate}
use Rattle.std.proofs.lemmas.Int.{ints}
use Rattle.std.proofs.lemmas.List.{length-replicate, get_or-replicate, get_or_default}
use Rattle.std.proofs.lemmas.Nat.{div-add-mod'}
use Rattle.std.proofs.Math.Nat.{mod-lt}
use Rattle.algebra.specs.Lists.{list_to, IsEntry}
use Rattle.algebra.proofs.ListsLemmas.{length-list_to, list_to_entry}
use Rattle.road_types.specs.Numbered.{numbered, IsNumber}
use Rattle.road_types.specs.Road.{section, hop, pit, access, block, no_section, no_hop, section_count, hop_count}
use Rattle.road_types.specs.RecordFaults.{is_name_byte}
use Rattle.road_types.specs.WellFormed.{IsBetween, IsStation, IsHeight, IsName, IsSolidSlab, IsSlabTable, IsOnKnots, IsWellFormedSection, IsWellFormedHop, IsWellFormedPit, IsWellFormedAccess, IsWellFormedBlock, IsCounted, IsWellFormed}
use Rattle.road_types.specs.declared.road.Road.{Road}
use Rattle.road_types.specs.declared.road.Section.{Section}
use Rattle.road_types.specs.declared.road.Slab.{Slab}
use Rattle.trial_roads.specs.Draws.{state_after, drawn}
use Rattle.trial_roads.specs.TrialRoads.{drawn_slab, state_behind, trial_section, trial_hop, road_of_size}
use Rattle.trial_roads.proofs.DrawLemmas.{drawn_small}

-- ---- numbers and entries

pub between : (low high x : ℕ) → low ≤ x → x ≤ high → IsBetween (pos low) (pos high) (pos x)
between low high x p q = record { at_least = omega (arith, ints, p); at_most = omega (arith, ints, q) }

number_entry : {A : Type 0} (other x : A) (xs : List A) (j : ℕ) → IsEntry xs j x → numbered other xs j ≡ x
number_entry other x xs j e = ap (numbered other xs) e.number ∙ get_or_default xs e.before other x e.within ∙ e.is_entry

pub list_at : {A : Type 0} (other : A) (f : ℕ → A) (n k : ℕ) → IsNumber k n → numbered other (list_to f n) k ≡ f k
list_at other f n k m = number_entry other (f k) (list_to f n) k (list_to_entry f n k m.from_one m.at_most)

pub copy_at : {A : Type 0} (other x : A) (n k : ℕ) → IsNumber k n → numbered other (replicate n x) k ≡ x
copy_at other x n zero m = absurd (omega (arith, m.from_one))
copy_at other x n (suc k) m = get_or-replicate n k x other (omega (arith, m.at_most))

-- ---- sections

pub record IsDrawnSlab (slab : Slab) : Type 0 where
  pub thick : slab.thick ≡ pos 1500
  pub area : ℕ
  pub is_area : slab.area ≡ pos area
  pub from : 1 ≤ area
  pub to : area ≤ 350

pub is_drawn_slab : (least x : ℕ) → 1 ≤ least → least ≤ 250 → IsDrawnSlab (drawn_slab least x)
is_drawn_slab least x p q =
    record { thick = refl; area = least + drawn x 100; is_area = refl; from = omega arith; to = omega (arith, drawn_small x 100 (omega arith)) }

solid_slab : (slab : Slab) → IsDrawnSlab slab → IsSolidSlab slab
solid_slab slab d = record {
  thick = subst (λ x. IsBetween (pos 1) (pos 10000000) x) (sym d.thick) (between 1 10000000 1500 (omega arith) (omega arith));
  area = subst (λ x. IsBetween (pos 1) (pos 10000000) x) (sym d.is_area) (between 1 10000000 d.area d.from (omega (arith, d.to)));
}

two_slabs : (a b : Slab) → IsDrawnSlab a → IsDrawnSlab b → IsSlabTable (a ∷ b ∷ [])
two_slabs a b p q = record { some = omega arith; few = omega arith; solid = at }
  where
    at : (k : ℕ) (other : Slab) → IsNumber k 2 → IsSolidSlab (numbered other (a ∷ b ∷ []) k)
    at zero other m = absurd (omega (arith, m.from_one))
    at (suc zero) other m = solid_slab a p
    at (suc (suc zero)) other m = solid_slab b q
    at (suc (suc (suc k))) other m = absurd (omega (arith, m.at_most))

ground_height : (g : ℕ) → g < 2001 → IsHeight (pos g -ℤ pos 1000)
ground_height g p = record { at_least = omega (arith, ints, p); at_most = omega (arith, ints, p) }

module _ (n number : ℕ) (from : 8 ≤ n) (to : n ≤ 24) where
  abbrev road : Road
  road = road_of_size n number

  pub count : section_count road ≡ n
  unfolding road_of_size
  count = length-list_to (trial_section number) n

  pub hops : hop_count road ≡ n - 1
  unfolding road_of_size
  hops = length-replicate (n - 1) trial_hop

  pub section_is : (i : ℕ) → IsNumber i n → section road i ≡ trial_section number i
  unfolding road_of_size
  section_is i m = list_at no_section (trial_section number) n i m

  pub hop_is : (h : ℕ) → IsNumber h (n - 1) → hop road h ≡ trial_hop
  unfolding road_of_size
  hop_is h m = copy_at no_hop trial_hop (n - 1) h m

  counted_in : (i many m : ℕ) → IsNumber i many → many ≡ m → IsNumber i m
  counted_in i many m p e = subst (λ x. IsNumber i x) e p

  on_knots : (i : ℕ) → IsNumber i n → IsOnKnots road (pos (i - 1))
  unfolding road_of_size
  on_knots i m = record { after_first = omega (arith, ints); before_last = omega (arith, ints, m.from_one, m.at_most) }

  well_section : (i : ℕ) → IsNumber i n → IsWellFormedSection road (trial_section number i)
  well_section i m =
      let x = state_behind number (i - 1) in
      record {
        station = between 0 100000 (i - 1) (omega arith) (omega (arith, m.at_most));
        on_knots = on_knots i m;
        height_of_ground = ground_height (drawn (state_after x 1) 2001) (drawn_small (state_after x 1) 2001 (omega arith));
        cut = two_slabs (drawn_slab 150 (state_after x 2)) (drawn_slab 250 (state_after x 3)) (is_drawn_slab 150 (state_after x 2) (omega arith) (omega arith)) (is_drawn_slab 250 (state_after x 3) (omega arith) (omega arith));
        fill = two_slabs (drawn_slab 150 (state_after x 4)) (drawn_slab 250 (state_after x 5)) (is_drawn_slab 150 (state_after x 4) (omega arith) (omega arith)) (is_drawn_slab 250 (state_after x 5) (omega arith) (omega arith));
        cut_cost = between 0 1000000 3 (omega arith) (omega arith);
        fill_cost = between 0 1000000 2 (omega arith) (omega arith);
        cut_max = between 0 100000000000000 1000000 (omega arith) (omega arith);
        fill_max = between 0 100000000000000 1000000 (omega arith) (omega arith);
      }

  well_hop : IsWellFormedHop trial_hop
  well_hop = record {
    right_cost = between 0 1000000 4 (omega arith) (omega arith);
    right_max = between 0 100000000000000 4000000 (omega arith) (omega arith);
    left_cost = between 0 1000000 4 (omega arith) (omega arith);
    left_max = between 0 100000000000000 4000000 (omega arith) (omega arith);
  }

  -- ---- knots

  half : (n / 2 ≤ n - 2) × (1 ≤ n / 2)
  half =
      let parts = div-add-mod' n 2 in
      let rest : n % 2 < 2 = mod-lt n (omega arith) in
      (omega (arith, parts, rest, from), omega (arith, parts, rest, from))

  knot_in_range : (k : ℕ) → IsNumber k 3 → IsStation (numbered (pos 0) road.knots k)
  unfolding road_of_size
  knot_in_range zero m = absurd (omega (arith, m.from_one))
  knot_in_range (suc zero) m = between 0 100000 0 (omega arith) (omega arith)
  knot_in_range (suc (suc zero)) m = between 0 100000 (n / 2) (omega arith) (omega (arith, half.0, to))
  knot_in_range (suc (suc (suc zero))) m = between 0 100000 (n - 1) (omega arith) (omega (arith, to))
  knot_in_range (suc (suc (suc (suc k)))) m = absurd (omega (arith, m.at_most))

  knots_rise : (g : ℕ) → IsNumber g 2 → numbered (pos 0) road.knots g <ℤ numbered (pos 0) road.knots (suc g)
  unfolding road_of_size
  knots_rise zero m = absurd (omega (arith, m.from_one))
  knots_rise (suc zero) m = omega (arith, ints, half.1)
  knots_rise (suc (suc zero)) m = omega (arith, ints, half.0, from)
  knots_rise (suc (suc (suc g))) m = absurd (omega (arith, m.at_most))

  stations_rise : (i : ℕ) → IsNumber i (n - 1) → (section road i).station <ℤ (section road (i + 1)).station
  stations_rise i m =
      let here = ap (λ (s : Section). s.station) (section_is i (record { from_one = m.from_one; at_most = omega (arith, m.at_most) })) in
      let next = ap (λ (s : Section). s.station) (section_is (i + 1) (record { from_one = omega arith; at_most = omega (arith, m.at_most, m.from_one) })) in
      omega (arith, ints, here, next, m.from_one)

  -- ---- pits, access roads, the block

  one_letter : (letter : ℕ) → is_name_byte letter ≡ true → IsName (letter ∷ [])
  one_letter letter e = record { some = omega arith; few = omega arith; each = at }
    where
      at : (k : ℕ) → IsNumber k 1 → is_name_byte (numbered 0 (letter ∷ []) k) ≡ true
      at zero m = absurd (omega (arith, m.from_one))
      at (suc zero) m = e
      at (suc (suc k)) m = absurd (omega (arith, m.at_most))

  well_pit : (p : ℕ) → IsNumber p 2 → IsWellFormedPit (pit road p)
  unfolding road_of_size
  well_pit zero m = absurd (omega (arith, m.from_one))
  well_pit (suc zero) m = record {
    name = one_letter 98 refl;
    capacity = between 0 100000000000000 8000000 (omega arith) (omega arith);
    cost = between 0 1000000 5 (omega arith) (omega arith);
  }
  well_pit (suc (suc zero)) m = record {
    name = one_letter 119 refl;
    capacity = between 0 100000000000000 8000000 (omega arith) (omega arith);
    cost = between 0 1000000 1 (omega arith) (omega arith);
  }
  well_pit (suc (suc (suc p))) m = absurd (omega (arith, m.at_most))

  pits_differ : (p q : ℕ) → IsNumber p 2 → IsNumber q 2 → (pit road p).name ≡ (pit road q).name → p ≡ q
  unfolding road_of_size
  pits_differ zero q m k e = absurd (omega (arith, m.from_one))
  pits_differ (suc (suc (suc p))) q m k e = absurd (omega (arith, m.at_most))
  pits_differ p zero m k e = absurd (omega (arith, k.from_one))
  pits_differ p (suc (suc (suc q))) m k e = absurd (omega (arith, k.at_most))
  pits_differ (suc zero) (suc zero) m k e = refl
  pits_differ (suc (suc zero)) (suc (suc zero)) m k e = refl
  pits_differ (suc zero) (suc (suc zero)) m k e = absurd (omega (arith, ap (λ name. get_or name 0 0) e))
  pits_differ (suc (suc zero)) (suc zero) m k e = absurd (omega (arith, ap (λ name. get_or name 0 0) e))

  well_access : (q : ℕ) → IsNumber q 2 → IsWellFormedAccess road (access road q)
  unfolding road_of_size
  well_access zero m = absurd (omega (arith, m.from_one))
  well_access (suc zero) m = record {
    pit = record { from_one = omega arith; at_most = omega arith };
    section = record { from_one = omega arith; at_most = omega (arith, count, from) };
    cost = between 0 1000000 2 (omega arith) (omega arith);
    max = between 0 100000000000000 4000000 (omega arith) (omega arith);
  }
  well_access (suc (suc zero)) m = record {
    pit = record { from_one = omega arith; at_most = omega arith };
    section = record { from_one = omega (arith, from); at_most = omega (arith, count) };
    cost = between 0 1000000 2 (omega arith) (omega arith);
    max = between 0 100000000000000 4000000 (omega arith) (omega arith);
  }
  well_access (suc (suc (suc q))) m = absurd (omega (arith, m.at_most))

  pub block_number : (k : ℕ) → IsNumber k 1 → IsNumber (block road k).section n
  unfolding road_of_size
  block_number zero m = absurd (omega (arith, m.from_one))
  block_number (suc zero) m =
      let x = state_after (state_behind number n) 1 in
      record { from_one = omega arith; at_most = omega (arith, drawn_small x (n - 2) (omega (arith, from)), from) }
  block_number (suc (suc k)) m = absurd (omega (arith, m.at_most))

  well_block : (k : ℕ) → IsNumber k 1 → IsWellFormedBlock road (block road k)
  unfolding road_of_size
  well_block zero m = absurd (omega (arith, m.from_one))
  well_block (suc zero) m = record {
    section = counted_in (block road 1).section n (section_count road) (block_number 1 m) (sym count);
    cost = between 0 1000000 1000 (omega arith) (omega arith);
  }
  well_block (suc (suc k)) m = absurd (omega (arith, m.at_most))

  counts : IsCounted road
  unfolding road_of_size
  counts = record {
    stages_from = omega arith;
    stages_to = omega arith;
    knots_from = omega arith;
    knots_to = omega arith;
    sections_from = omega (arith, count, from);
    sections_to = omega (arith, count, to);
    hops_count = omega (arith, count, hops);
    fixed_to = omega arith;
    pits_to = omega arith;
    roads_to = omega arith;
    blocks_to = omega arith;
  }

  pub well_formed : IsWellFormed road
  unfolding road_of_size
  well_formed = record {
    counted = counts;
    step = between 1 1000 20 (omega arith) (omega arith);
    low = record { at_least = omega (arith, ints); at_most = omega (arith, ints) };
    high = record { at_least = omega (arith, ints); at_most = omega (arith, ints) };
    low_high = omega (arith, ints);
    grade_low = record { at_least = omega (arith, ints); at_most = omega (arith, ints) };
    grade_high = record { at_least = omega (arith, ints); at_most = omega (arith, ints) };
    grade_ordered = omega (arith, ints);
    curve = between 0 1000000 200 (omega arith) (omega arith);
    knots_in_range = knot_in_range;
    knots_rise = knots_rise;
    sections = λ i m.
        let k = counted_in i (section_count road) n m count in
        subst (λ s. IsWellFormedSection road s) (sym (section_is i k)) (well_section i k);
    stations_rise = λ i m. stations_rise i (counted_in i (hop_count road) (n - 1) m hops);
    hops = λ h m. subst IsWellFormedHop (sym (hop_is h (counted_in h (hop_count road) (n - 1) m hops))) well_hop;
    fixed = λ f m. absurd (omega (arith, m.from_one, m.at_most));
    pits = well_pit;
    pits_differ = pits_differ;
    roads = well_access;
    blocks = well_block;
    blocks_differ = λ k l p q e. omega (arith, p.from_one, p.at_most, q.from_one, q.at_most);
    nodes = between 1 4999 7 (omega arith) (omega arith);
    pivots = between 1 20000 300 (omega arith) (omega arith);
  }
