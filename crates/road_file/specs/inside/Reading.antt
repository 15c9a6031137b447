-- What is still to be read of a file, or of a section, once its first values are.
use Rattle.std.specs.Prelude.{codes, pos, ℤ, List, Result, Ok}
use Rattle.toml.specs.Data.{Data, Members}
use Rattle.road_types.specs.declared.fault.Fault.{Fault}
use Rattle.road_types.specs.declared.road.Slab.{Slab}
use Rattle.road_types.specs.declared.road.Section.{Section}
use Rattle.road_file.specs.declared.file.FilePit.{FilePit}
use Rattle.road_file.specs.declared.file.FileAccess.{FileAccess}
use Rattle.road_file.specs.declared.file.FileBlock.{FileBlock}
use Rattle.road_file.specs.declared.file.FileScales.{FileScales}
use Rattle.road_file.specs.declared.file.FileLimits.{FileLimits}
use Rattle.road_file.specs.declared.file.FilePlaces.{FilePlaces}
use Rattle.road_file.specs.declared.file.RoadFile.{RoadFile}
use Rattle.road_file.specs.Step.{◌>>=◌, where_kept}
use Rattle.road_types.specs.declared.fault.Fault.TheVariants.{F3, F4, F6}
use Rattle.road_file.specs.Keys.{is_complete, is_known}
use Rattle.road_file.specs.Ranges.{file_in_range}
use Rattle.road_file.specs.Kinds.{table_of, whole_of, whole_at, pair_at, list_at, whole_or, text_or_none, list_or_empty}
use Rattle.road_file.specs.Records.{slab_of, section_of, hop_of, fixed_of, pit_of, access_of, block_of, file_of}

-- the height of the ground at a section, in mm
abbrev ground : Section → ℤ
ground s = s.ground

-- the costs and limits of a section behind its tables
unfoldable pub section_with : Members → ℤ → ℤ → List Slab → List Slab → Result Section Fault
section_with members station height cut fill = do
  cut_cost ← whole_at (codes "cut_cost") members
  fill_cost ← whole_at (codes "fill_cost") members
  cut_max ← whole_at (codes "cut_max") members
  fill_max ← whole_at (codes "fill_max") members
  Ok (record { station = station; ground = height; cut = cut; fill = fill; cut_cost = cut_cost; fill_cost = fill_cost; cut_max = cut_max; fill_max = fill_max })

-- a section, read up to its tables and then its costs and limits
unfoldable pub read_section : Data → Result Section Fault
read_section d = do
  members ← table_of d
  station ← whole_at (codes "station") members
  height ← whole_at (codes "ground") members
  cut ← list_at slab_of (codes "cut") members
  fill ← list_at slab_of (codes "fill") members
  section_with members station height cut fill

-- the file of its parts
unfoldable pub whole_file : FileScales → FileLimits → FilePlaces → List FilePit → List FileAccess → List FileBlock → RoadFile
whole_file scales limits places pits roads blocks =
    record {
      version = scales.version;
      step = scales.step;
      stages = scales.stages;
      knots = places.knots;
      low = limits.low;
      high = limits.high;
      grade = limits.grade;
      curve = limits.curve;
      nodes = limits.nodes;
      pivots = limits.pivots;
      table = places.table;
      sections = places.sections;
      hops = places.hops;
      fixed = places.fixed;
      pits = pits;
      roads = roads;
      blocks = blocks;
    }

-- the pits, access roads and blocks
unfoldable pub read_pits : Members → FileScales → FileLimits → FilePlaces → Result RoadFile Fault
read_pits root scales limits places = do
  pits ← list_or_empty pit_of (codes "pit") root
  roads ← list_or_empty access_of (codes "road") root
  blocks ← list_or_empty block_of (codes "block") root
  Ok (whole_file scales limits places pits roads blocks)

-- and before them the section table's name, the sections, hops and fixed points
unfoldable pub read_places : Members → FileScales → FileLimits → List ℤ → Result RoadFile Fault
read_places root scales limits knots = do
  table ← text_or_none (codes "table") root
  sections ← list_or_empty section_of (codes "section") root
  hops ← list_or_empty hop_of (codes "hop") root
  fixed ← list_or_empty fixed_of (codes "fixed") root
  read_pits root scales limits (record { knots = knots; table = table; sections = sections; hops = hops; fixed = fixed })

-- and before them the limits
unfoldable pub read_on : Members → FileScales → List ℤ → Result RoadFile Fault
read_on root scales knots = do
  low ← whole_at (codes "low") root
  high ← whole_at (codes "high") root
  grade ← pair_at (codes "grade") root
  curve ← whole_at (codes "curve") root
  nodes ← whole_or (pos 499) (codes "nodes") root
  pivots ← whole_or (pos 5000) (codes "pivots") root
  read_places root scales (record { low = low; high = high; grade = grade; curve = curve; nodes = nodes; pivots = pivots }) knots

-- and before them the version, the scales and the knots: the whole file
unfoldable pub read_file : Members → Result RoadFile Fault
read_file root = do
  version ← whole_at (codes "version") root
  step ← whole_at (codes "step") root
  stages ← whole_at (codes "stages") root
  knots ← list_at whole_of (codes "knots") root
  read_on root (record { version = version; step = step; stages = stages }) knots

-- what a document says, where its keys, kinds and ranges are right
unfoldable pub contents_in : Members → Result RoadFile Fault
contents_in root = do
  root ← where_kept (is_complete root) F3 root
  root ← where_kept (is_known root) F4 root
  file ← file_of root
  where_kept (file_in_range file) F6 file
