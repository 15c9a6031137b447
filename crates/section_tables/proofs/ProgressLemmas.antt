-- What one more read tells of how far a reader has come in a table.
use Rattle.std.proofs.Common.{Bor, ◌≡◌, ◌∙◌, ℕ, ◌<◌, true, false, List, [], ◌∷◌, ◌++◌, Some, None, Result, Ok, Err, inl, ap, sym, refl}
use Rattle.csv.specs.Reading.{Reached, ReadRecord, Ready, RowStep, default_config, records, source_of, reader_config, reader_state, reader_trim, took_first}
use Rattle.csv.specs.Records.{fields_of}
use Rattle.csv.specs.declared.reader.Reader.{Reader}
use Rattle.csv.specs.declared.record.ByteRecord.{ByteRecord}
use Rattle.csv.specs.declared.error.Error.{Error}
use Rattle.csv.specs.Machine.{next_record}
use Rattle.csv.specs.declared.parser.State.{State}
use Rattle.csv.specs.declared.parser.State.TheVariants as st
use Rattle.csv.specs.declared.reader.Trim.TheVariants as trim
use Rattle.csv.proofs.ReadFacts.{rows-end, rows-more}
use Rattle.road_types.specs.declared.road.Section.{Section}
use Rattle.section_tables.specs.declared.error.TableErr.{TableErr}
use Rattle.section_tables.specs.Steps.{MayAnswer}
use Rattle.section_tables.specs.Tables.{is_header, section_of, sections_in}
use Rattle.section_tables.specs.inside.Progress.{known, HasRead, IsUnderHeader, HasPut, StopsAt}
use Rattle.section_tables.proofs.EachLemmas.{each_one_more}
use Rattle.section_tables.proofs.TableLemmas.{no_records, no_header, section_refused, all_sections}

from_start : (s : State) (text : List ℕ) → st.StartRecord ≡ s → next_record default_config s [] [] text ≡ None → next_record default_config st.StartRecord [] [] text ≡ None
from_start s text e none = rw e none

module _ (text : List ℕ) where
  -- before the first read
  pub nothing_read : (a : Reader (Bor (List ℕ))) → reader_trim a ≡ trim.None → Ready a → reader_config a ≡ default_config → source_of known a ≡ Some text → reader_state a ≡ st.StartRecord → HasRead text [] a
  unfolding Reached
  nothing_read a plain ready config source start = record {
    trim = plain;
    ready = ready;
    config = config;
    left = text;
    source = source;
    reached = (sym start, refl);
  }

  -- a read that found a record
  read_on : (rows : List (List (List ℕ))) (a b : Reader (Bor (List ℕ))) (f : List (List ℕ)) → HasRead text rows a → took_first b ≡ true → ReadRecord known a b true f → HasRead text (rows ++ f ∷ []) b
  read_on rows a b f before first r =
      let (z, at_z, reached) = rows-more known a b f default_config st.StartRecord text before.left rows before.config before.source before.reached r in
      record {
        trim = r.3 ∙ before.trim;
        ready = inl first;
        config = r.2 ∙ before.config;
        left = z;
        source = at_z;
        reached = reached;
      }

  module _ (a b : Reader (Bor (List ℕ))) (f : List (List ℕ)) (before : HasRead text [] a) where
    -- a first record that names the columns
    pub named_first : took_first b ≡ true → ReadRecord known a b true f → is_header f ≡ true → IsUnderHeader text [] b
    named_first first r named = record { header = f; rows = []; named = named; sections = refl; read = read_on [] a b f before first r }

    -- one that doesn't
    pub other_first : took_first b ≡ true → ReadRecord known a b true f → is_header f ≡ false → sections_in (records default_config text) ≡ None
    other_first first r other =
        let after = read_on [] a b f before first r in
        no_header text f (reader_state b) after.left after.reached other

    -- no record at all
    pub none_first : ReadRecord known a b false f → sections_in (records default_config text) ≡ None
    unfolding Reached
    none_first r =
        no_records text (from_start (reader_state a) text before.reached.0 (rows-end known a b f default_config text before.config (before.source ∙ ap Some (sym before.reached.1)) r))

  module _ (found : List Section) (a b : Reader (Bor (List ℕ))) (left : ℕ) (before : IsUnderHeader text found a) where
    -- a record whose section was put behind the others
    pub put_on : (read : Result ByteRecord Error) (more : List Section) → RowStep known a b left (Some read) → HasPut read found more → IsUnderHeader text more b
    put_on (Ok row) more step put = record {
      header = before.header;
      rows = before.rows ++ fields_of row ∷ [];
      named = before.named;
      sections = each_one_more section_of before.rows (fields_of row) found put.0 before.sections put.1 ∙ ap Some (sym put.2);
      read = read_on (before.header ∷ before.rows) a b (fields_of row) before.read step.1 step.0;
    }
    put_on (Err cause) more step put = absurd put

    -- one at which the read stops
    pub stopped : (read : Result ByteRecord Error) (error : TableErr) → RowStep known a b left (Some read) → StopsAt read error → MayAnswer {A = List Section} (Err error) (sections_in (records default_config text))
    stopped (Ok row) error step stops =
        let after = read_on (before.header ∷ before.rows) a b (fields_of row) before.read step.1 step.0 in
        section_refused text before.header (fields_of row) before.rows found (reader_state b) after.left error after.reached before.named before.sections stops
    stopped (Err cause) error step stops = rw stops tt

    -- the end of the records
    pub all_put : RowStep known a b left None → sections_in (records default_config text) ≡ Some found
    all_put step =
        all_sections text before.header before.rows found (reader_state a) before.read.left before.read.reached (rows-end known a b [] default_config before.read.left before.read.config before.read.source step) before.named before.sections

-- a further read may come
pub more_left : (a b : Reader (Bor (List ℕ))) (left : ℕ) (read : Result ByteRecord Error) (old new : List Section) → RowStep known a b left (Some read) → HasPut read old new → 0 < left
more_left a b left (Ok row) old new step put = step.2
more_left a b left (Err cause) old new step put = absurd put
