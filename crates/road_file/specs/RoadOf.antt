-- The road that a road file stands for, or the first of its faults: its text, document and contents, the section table that it
-- names, the road from these, and the answer.
use Rattle.std.specs.Prelude.{ℕ, ◌-◌, nat_le, ℤ, pos, negsuc, if◌then◌else◌, List, [], ◌∷◌, length, map, replicate, Option, Some, None, Result, Ok, Err}
use Rattle.std.specs.Str.{is_utf8}
use Rattle.toml.specs.Data.{Members}
use Rattle.toml.specs.Parse.{parse_document}
use Rattle.road_types.specs.Faults.{road_fault}
use Rattle.road_types.specs.Limits.{longest_file}
use Rattle.road_types.specs.declared.fault.Fault.{Fault}
use Rattle.road_types.specs.declared.fault.Fault.TheVariants.{F1, F2, F3, F4, F6, F16}
use Rattle.road_types.specs.declared.road.Section.{Section}
use Rattle.road_types.specs.declared.road.Hop.{Hop}
use Rattle.road_types.specs.declared.road.Pit.{Pit}
use Rattle.road_types.specs.declared.road.PitKind.{PitKind}
use Rattle.road_types.specs.declared.road.PitKind.TheVariants.{Borrow, Waste}
use Rattle.road_types.specs.declared.road.Access.{Access}
use Rattle.road_types.specs.declared.road.Block.{Block}
use Rattle.road_types.specs.declared.road.Road.{Road}
use Rattle.section_tables.specs.Tables.{sections_of}
use Rattle.road_file.specs.declared.file.FilePit.{FilePit}
use Rattle.road_file.specs.declared.file.FileAccess.{FileAccess}
use Rattle.road_file.specs.declared.file.FileBlock.{FileBlock}
use Rattle.road_file.specs.declared.file.RoadFile.{RoadFile}
use Rattle.road_file.specs.Step.{◌>>=◌, where_kept}
use Rattle.road_file.specs.Keys.{is_complete, is_known}
use Rattle.road_file.specs.Records.{file_of}
use Rattle.road_file.specs.Names.{pit_number}
use Rattle.road_file.specs.Ranges.{is_borrow, file_in_range}

-- the text of a file, which is not too long and is UTF-8
unfoldable pub text_in : List ℕ → Result (List ℕ) Fault
text_in bytes = do
  bytes ← where_kept (nat_le (length bytes) longest_file) F1 bytes
  where_kept (is_utf8 bytes) F2 bytes

-- the document of a text
abbrev pub of_parsed : Option Members → Result Members Fault
of_parsed (Some root) = Ok root
of_parsed None = Err F2

unfoldable pub document_of : List ℕ → Result Members Fault
document_of bytes = do
  text ← text_in bytes
  of_parsed (parse_document text)

-- what a file says, where its keys, kinds and ranges are right
unfoldable pub contents_of : List ℕ → Result RoadFile Fault
contents_of bytes = do
  root ← document_of bytes
  root ← where_kept (is_complete root) F3 root
  root ← where_kept (is_known root) F4 root
  file ← file_of root
  where_kept (file_in_range file) F6 file

-- the name of the section table, where the sections stand in one
unfoldable pub table_name_of : List ℕ → Result (Option (List ℕ)) Fault
table_name_of bytes = do
  file ← contents_of bytes
  Ok file.table

-- the sections that were found, or the fault of a table that is none
abbrev pub of_found : Option (List Section) → Result (List Section) Fault
of_found (Some sections) = Ok sections
of_found None = Err F16

-- the sections of a section table, which has to be given
abbrev pub of_table : Option (List ℕ) → Result (List Section) Fault
of_table (Some csv) = of_found (sections_of csv)
of_table None = Err F16

-- the sections of a file: its own, or those of the table that it names
abbrev pub sections_by : Option (List ℕ) → List Section → Option (List ℕ) → Result (List Section) Fault
sections_by None sections csv = Ok sections
sections_by (Some name) sections csv = of_table csv

unfoldable pub with_sections : RoadFile → List Section → RoadFile
with_sections file sections = record file { sections = sections }

-- what a file says, with the sections of its table in their place
unfoldable pub completed : RoadFile → Option (List ℕ) → Result RoadFile Fault
completed file csv = do
  sections ← sections_by file.table file.sections csv
  Ok (with_sections file sections)

-- a whole number as a count or an entry's number; below 1 there is none, which is 0
abbrev pub natural_or_zero : ℤ → ℕ
natural_or_zero (pos n) = n
natural_or_zero (negsuc n) = 0

abbrev pub kind_of : List ℕ → PitKind
kind_of kind = if is_borrow kind then Borrow else Waste

unfoldable pub pit_from : FilePit → Pit
pit_from p = record { name = p.name; kind = kind_of p.kind; capacity = p.capacity; cost = p.cost }

-- an access road, with its pit by number
unfoldable pub access_to : ℕ → FileAccess → Access
access_to pit a = record { pit = pit; section = natural_or_zero a.section; cost = a.cost; max = a.max }

abbrev pub access_from : List FilePit → FileAccess → Access
access_from pits a = access_to (pit_number a.pit pits) a

unfoldable pub block_from : FileBlock → Block
block_from b = record { section = natural_or_zero b.section; cost = b.cost }

-- one entry stands for the hops between all neighbours among the sections
unfoldable pub hops_between : ℕ → List Hop → List Hop
hops_between sections (hop ∷ []) = replicate (sections - 1) hop
hops_between sections hops = hops

unfoldable pub road_from : RoadFile → Road
road_from file =
    record {
      step = file.step;
      stages = natural_or_zero file.stages;
      knots = file.knots;
      low = file.low;
      high = file.high;
      grade = file.grade;
      curve = file.curve;
      sections = file.sections;
      fixed = file.fixed;
      pits = map pit_from file.pits;
      roads = map (access_from file.pits) file.roads;
      blocks = map block_from file.blocks;
      hops = hops_between (length file.sections) file.hops;
      nodes = file.nodes;
      pivots = file.pivots;
    }

-- a road, or the first fault of its record
abbrev pub of_fault : Road → Option Fault → Result Road Fault
of_fault road None = Ok road
of_fault road (Some fault) = Err fault

-- the road of a file and of what its section table holds, if that is given; a table that isn't named isn't looked at
unfoldable pub road_of : List ℕ → Option (List ℕ) → Result Road Fault
road_of bytes csv = do
  file ← contents_of bytes
  whole ← completed file csv
  of_fault (road_from whole) (road_fault (road_from whole))
