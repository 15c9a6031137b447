-- The trial road of a number. The number is the first state of its draws; the draws of its sections follow each other, five a
-- section, and the last one places the block.
use Rattle.std.specs.Prelude.{ℕ, zero, suc, ◌+◌, ◌-◌, ◌/◌, ◌%◌, List, [], ◌∷◌, replicate, ℤ, pos, neg_ℤ, ◌-ℤ◌}
use Rattle.algebra.specs.Lists.{list_to}
use Rattle.road_types.specs.declared.road.Road.{Road}
use Rattle.road_types.specs.declared.road.Section.{Section}
use Rattle.road_types.specs.declared.road.Slab.{Slab}
use Rattle.road_types.specs.declared.road.Hop.{Hop}
use Rattle.road_types.specs.declared.road.Pit.{Pit}
use Rattle.road_types.specs.declared.road.PitKind.TheVariants.{Borrow, Waste}
use Rattle.road_types.specs.declared.road.Access.{Access}
use Rattle.road_types.specs.declared.road.Block.{Block}
use Rattle.trial_roads.specs.Draws.{state_after, drawn}

-- the height of a section's ground
abbrev ground : Section → ℤ
ground s = s.ground

-- a slab of 1.5 m whose area is at least the given one and less than 100 m² above it
abbrev pub drawn_slab : ℕ → ℕ → Slab
drawn_slab least x = record { thick = pos 1500; area = pos (least + drawn x 100) }

-- the section that is drawn from a state: its ground, two slabs of cut, two of fill
abbrev pub drawn_section : ℕ → ℕ → Section
drawn_section x i = record {
  station = pos (i - 1);
  ground = pos (drawn (state_after x 1) 2001) -ℤ pos 1000;
  cut = drawn_slab 150 (state_after x 2) ∷ drawn_slab 250 (state_after x 3) ∷ [];
  fill = drawn_slab 150 (state_after x 4) ∷ drawn_slab 250 (state_after x 5) ∷ [];
  cut_cost = pos 3;
  fill_cost = pos 2;
  cut_max = pos 1000000;
  fill_max = pos 1000000;
}

-- the state after the draws of so many sections
unfoldable pub state_behind : ℕ → ℕ → ℕ
state_behind number zero = number
state_behind number (suc sections) = state_after (state_behind number sections) 5

-- section i
abbrev pub trial_section : ℕ → ℕ → Section
trial_section number i = drawn_section (state_behind number (i - 1)) i

abbrev pub trial_hop : Hop
trial_hop = record { right_cost = pos 4; right_max = pos 4000000; left_cost = pos 4; left_max = pos 4000000 }

-- the pit `b`, from which earth comes, and the pit `w`, to which it goes
abbrev pub trial_pits : List Pit
trial_pits =
    record { name = 98 ∷ []; kind = Borrow; capacity = pos 8000000; cost = pos 5 }
    ∷ record { name = 119 ∷ []; kind = Waste; capacity = pos 8000000; cost = pos 1 } ∷ []

-- a road from a pit to a section
abbrev pub trial_access : ℕ → ℕ → Access
trial_access pit section = record { pit = pit; section = section; cost = pos 2; max = pos 4000000 }

-- the block, at a section that is neither the first nor the last of n
abbrev pub trial_block : ℕ → ℕ → Block
trial_block n x = record { section = 2 + drawn (state_after x 1) (n - 2); cost = pos 1000 }

-- the road with so many sections
unfoldable pub road_of_size : ℕ → ℕ → Road
road_of_size n number = record {
  step = pos 20;
  stages = 2;
  knots = pos 0 ∷ pos (n / 2) ∷ pos (n - 1) ∷ [];
  low = neg_ℤ (pos 20000);
  high = pos 20000;
  grade = (neg_ℤ (pos 1200), pos 1200);
  curve = pos 200;
  sections = list_to (trial_section number) n;
  fixed = [];
  pits = trial_pits;
  roads = trial_access 1 1 ∷ trial_access 2 n ∷ [];
  blocks = trial_block n (state_behind number n) ∷ [];
  hops = replicate (n - 1) trial_hop;
  nodes = pos 7;
  pivots = pos 300;
}

-- the trial road of a number has 8 to 24 sections
abbrev pub trial_road : ℕ → Road
trial_road number = road_of_size (8 + number % 17) number
