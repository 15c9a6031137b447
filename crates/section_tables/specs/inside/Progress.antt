-- How far a reader has come in a table, and what is done with one record.
--     HasRead text rows reader      these are the first records of the text, and the reader goes on behind them
--     IsUnderHeader text found reader      the first record names the columns, and these are the sections of the others so far
--     HasPut record old new      the record's section was put behind the others
--     StopsAt record error      why none was put
use Rattle.std.specs.Prelude.{◌≡◌, ℕ, List, [], ◌∷◌, ◌++◌, Option, Some, Result, Ok, Err, true}
use Rattle.std.specs.Borrow.{Bor}
use Rattle.csv.specs.Reading.{Reached, Ready, default_config, source_of, reader_config, reader_state, reader_trim}
use Rattle.csv.specs.Records.{fields_of}
use Rattle.csv.specs.declared.reader.Reader.{Reader}
use Rattle.csv.specs.declared.record.ByteRecord.{ByteRecord}
use Rattle.csv.specs.declared.error.Error.{Error}
use Rattle.csv.specs.declared.parser.State.TheVariants as st
use Rattle.csv.specs.declared.reader.Trim.TheVariants as trim
use Rattle.road_types.specs.declared.road.Section.{Section}
use Rattle.section_tables.specs.declared.error.TableErr.{TableErr}
use Rattle.section_tables.specs.declared.error.TableErr.TheVariants.{NoMemory}
use Rattle.section_tables.specs.Steps.{MayAnswer, each}
use Rattle.section_tables.specs.Tables.{is_header, section_of}

-- the bytes of a slice that is read
abbrev pub known : Bor (List ℕ) → Option (List ℕ)
known bytes = Some bytes.now

-- these are the first records of the text, and the reader goes on behind them
pub record HasRead (text : List ℕ) (rows : List (List (List ℕ))) (reader : Reader (Bor (List ℕ))) : Type 0 where
  pub trim : reader_trim reader ≡ trim.None
  pub ready : Ready reader
  pub config : reader_config reader ≡ default_config
  pub left : List ℕ
  pub source : source_of known reader ≡ Some left
  pub reached : Reached default_config st.StartRecord text rows (reader_state reader) left

-- the first record names the columns, and these are the sections of the others so far
pub record IsUnderHeader (text : List ℕ) (found : List Section) (reader : Reader (Bor (List ℕ))) : Type 0 where
  pub header : List (List ℕ)
  pub rows : List (List (List ℕ))
  pub named : is_header header ≡ true
  pub sections : each section_of rows ≡ Some found
  pub read : HasRead text (header ∷ rows) reader

-- the record's section was put behind the others
abbrev pub HasPut : Result ByteRecord Error → List Section → List Section → Type 0
HasPut (Ok row) old new = (section : Section) × (section_of (fields_of row) ≡ Some section) × (new ≡ old ++ section ∷ [])
HasPut (Err error) old new = ⊥

-- why none was put: the record is no section, or memory was wanting
abbrev pub StopsAt : Result ByteRecord Error → TableErr → Type 0
StopsAt (Ok row) error = MayAnswer {A = Section} (Err error) (section_of (fields_of row))
StopsAt (Err cause) error = error ≡ NoMemory
