-- What stands on a road by its number, which begins at 1: sections, hops, fixed points, pits, access roads, blocks, and how many
-- there are. Past the end stands an entry without any amount or cost. Also an access road's unit cost, and whom it serves.
use Rattle.std.specs.Prelude.{ℕ, ◌-◌, ◌==◌, Bool, true, false, ◌&&◌, [], length, ℤ, pos, ◌+ℤ◌}
use Rattle.road_types.specs.Numbered.{numbered}
use Rattle.road_types.specs.declared.road.Road.{Road}
use Rattle.road_types.specs.declared.road.Section.{Section}
use Rattle.road_types.specs.declared.road.Hop.{Hop}
use Rattle.road_types.specs.declared.road.Fixed.{Fixed}
use Rattle.road_types.specs.declared.road.Pit.{Pit}
use Rattle.road_types.specs.declared.road.PitKind.{PitKind}
use Rattle.road_types.specs.declared.road.PitKind.TheVariants.{Borrow, Waste}
use Rattle.road_types.specs.declared.road.Access.{Access}
use Rattle.road_types.specs.declared.road.Block.{Block}

-- the height of the ground at a section, in mm
abbrev pub ground : Section → ℤ
ground s = s.ground

abbrev pub no_section : Section
no_section = record { station = pos 0; ground = pos 0; cut = []; fill = []; cut_cost = pos 0; fill_cost = pos 0; cut_max = pos 0; fill_max = pos 0 }

abbrev pub no_hop : Hop
no_hop = record { right_cost = pos 0; right_max = pos 0; left_cost = pos 0; left_max = pos 0 }

abbrev pub no_fixed : Fixed
no_fixed = record { station = pos 0; low = pos 0; high = pos 0 }

abbrev pub no_pit : Pit
no_pit = record { name = []; kind = Borrow; capacity = pos 0; cost = pos 0 }

abbrev pub no_access : Access
no_access = record { pit = 0; section = 0; cost = pos 0; max = pos 0 }

abbrev pub no_block : Block
no_block = record { section = 0; cost = pos 0 }

abbrev pub section : Road → ℕ → Section
section road i = numbered no_section road.sections i

-- hop h joins section h and section h+1
abbrev pub hop : Road → ℕ → Hop
hop road h = numbered no_hop road.hops h

abbrev pub fixed_point : Road → ℕ → Fixed
fixed_point road f = numbered no_fixed road.fixed f

abbrev pub pit : Road → ℕ → Pit
pit road p = numbered no_pit road.pits p

abbrev pub access : Road → ℕ → Access
access road q = numbered no_access road.roads q

abbrev pub block : Road → ℕ → Block
block road k = numbered no_block road.blocks k

abbrev pub section_count : Road → ℕ
section_count road = length road.sections

-- a segment lies between two neighbouring knots
abbrev pub segment_count : Road → ℕ
segment_count road = length road.knots - 1

abbrev pub hop_count : Road → ℕ
hop_count road = length road.hops

abbrev pub fixed_count : Road → ℕ
fixed_count road = length road.fixed

abbrev pub pit_count : Road → ℕ
pit_count road = length road.pits

abbrev pub access_count : Road → ℕ
access_count road = length road.roads

abbrev pub block_count : Road → ℕ
block_count road = length road.blocks

-- a litre on access road q costs what the road and its pit cost
abbrev pub access_unit_cost : Road → ℕ → ℤ
access_unit_cost road q = (access road q).cost +ℤ (pit road (access road q).pit).cost

-- both borrow, or both waste
abbrev pub same_kind : PitKind → PitKind → Bool
same_kind Borrow Borrow = true
same_kind Borrow Waste = false
same_kind Waste Borrow = false
same_kind Waste Waste = true

-- access road q stands at section i, and its pit is of this kind
abbrev pub serves : Road → PitKind → ℕ → ℕ → Bool
serves road kind i q = ((access road q).section == i) && same_kind kind (pit road (access road q).pit).kind
