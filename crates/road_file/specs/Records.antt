-- What each table of a road file says by its keys, each value of its kind.
use Rattle.std.specs.Prelude.{codes, pos, Result, Ok, ℤ}
use Rattle.toml.specs.Data.{Data, Members}
use Rattle.road_types.specs.declared.fault.Fault.{Fault}
use Rattle.road_types.specs.declared.road.Slab.{Slab}
use Rattle.road_types.specs.declared.road.Section.{Section}
use Rattle.road_types.specs.declared.road.Hop.{Hop}
use Rattle.road_types.specs.declared.road.Fixed.{Fixed}
use Rattle.road_file.specs.declared.file.FilePit.{FilePit}
use Rattle.road_file.specs.declared.file.FileAccess.{FileAccess}
use Rattle.road_file.specs.declared.file.FileBlock.{FileBlock}
use Rattle.road_file.specs.declared.file.RoadFile.{RoadFile}
use Rattle.road_file.specs.Step.{◌>>=◌}
use Rattle.road_file.specs.Kinds.{table_of, pair_of, whole_of, whole_at, text_at, pair_at, list_at, whole_or, text_or_none, list_or_empty}

-- the height of the ground at a section, in mm
abbrev ground : Section → ℤ
ground s = s.ground

-- thickness and area
unfoldable pub slab_of : Data → Result Slab Fault
slab_of d = do
  pair ← pair_of d
  Ok (record { thick = pair.0; area = pair.1 })

unfoldable pub section_of : Data → Result Section Fault
section_of d = do
  members ← table_of d
  station ← whole_at (codes "station") members
  height ← whole_at (codes "ground") members
  cut ← list_at slab_of (codes "cut") members
  fill ← list_at slab_of (codes "fill") members
  cut_cost ← whole_at (codes "cut_cost") members
  fill_cost ← whole_at (codes "fill_cost") members
  cut_max ← whole_at (codes "cut_max") members
  fill_max ← whole_at (codes "fill_max") members
  Ok (record { station = station; ground = height; cut = cut; fill = fill; cut_cost = cut_cost; fill_cost = fill_cost; cut_max = cut_max; fill_max = fill_max })

unfoldable pub hop_of : Data → Result Hop Fault
hop_of d = do
  members ← table_of d
  right_cost ← whole_at (codes "right_cost") members
  right_max ← whole_at (codes "right_max") members
  left_cost ← whole_at (codes "left_cost") members
  left_max ← whole_at (codes "left_max") members
  Ok (record { right_cost = right_cost; right_max = right_max; left_cost = left_cost; left_max = left_max })

unfoldable pub fixed_of : Data → Result Fixed Fault
fixed_of d = do
  members ← table_of d
  station ← whole_at (codes "station") members
  low ← whole_at (codes "low") members
  high ← whole_at (codes "high") members
  Ok (record { station = station; low = low; high = high })

unfoldable pub pit_of : Data → Result FilePit Fault
pit_of d = do
  members ← table_of d
  name ← text_at (codes "name") members
  kind ← text_at (codes "kind") members
  capacity ← whole_at (codes "capacity") members
  cost ← whole_at (codes "cost") members
  Ok (record { name = name; kind = kind; capacity = capacity; cost = cost })

unfoldable pub access_of : Data → Result FileAccess Fault
access_of d = do
  members ← table_of d
  pit ← text_at (codes "pit") members
  section ← whole_at (codes "section") members
  cost ← whole_at (codes "cost") members
  max ← whole_at (codes "max") members
  Ok (record { pit = pit; section = section; cost = cost; max = max })

unfoldable pub block_of : Data → Result FileBlock Fault
block_of d = do
  members ← table_of d
  section ← whole_at (codes "section") members
  cost ← whole_at (codes "cost") members
  Ok (record { section = section; cost = cost })

-- the whole file; without a key of its own the search has 499 nodes and 5000 exchanges in each of them
unfoldable pub file_of : Members → Result RoadFile Fault
file_of root = do
  version ← whole_at (codes "version") root
  step ← whole_at (codes "step") root
  stages ← whole_at (codes "stages") root
  knots ← list_at whole_of (codes "knots") root
  low ← whole_at (codes "low") root
  high ← whole_at (codes "high") root
  grade ← pair_at (codes "grade") root
  curve ← whole_at (codes "curve") root
  nodes ← whole_or (pos 499) (codes "nodes") root
  pivots ← whole_or (pos 5000) (codes "pivots") root
  table ← text_or_none (codes "table") root
  sections ← list_or_empty section_of (codes "section") root
  hops ← list_or_empty hop_of (codes "hop") root
  fixed ← list_or_empty fixed_of (codes "fixed") root
  pits ← list_or_empty pit_of (codes "pit") root
  roads ← list_or_empty access_of (codes "road") root
  blocks ← list_or_empty block_of (codes "block") root
  Ok (record { version = version; step = step; stages = stages; knots = knots; low = low; high = high; grade = grade; curve = curve; nodes = nodes; pivots = pivots; table = table; sections = sections; hops = hops; fixed = fixed; pits = pits; roads = roads; blocks = blocks })
