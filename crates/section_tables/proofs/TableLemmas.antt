-- A table's sections, by the records that were read of it so far.
use Rattle.std.proofs.Common.{◌≡◌, ℕ, true, false, List, [], ◌∷◌, ◌++◌, Some, None, Err, refl, ap, ◌∙◌, append_assoc}
use Rattle.csv.specs.Machine.{next_record}
use Rattle.csv.specs.Reading.{default_config, Reached, records}
use Rattle.csv.specs.declared.parser.State.{State}
use Rattle.csv.specs.declared.parser.State.TheVariants as st
use Rattle.road_types.specs.declared.road.Section.{Section}
use Rattle.section_tables.specs.declared.error.TableErr.{TableErr}
use Rattle.section_tables.specs.declared.error.TableErr.TheVariants.{Refused, NoMemory}
use Rattle.section_tables.specs.Steps.{each, MayAnswer}
use Rattle.section_tables.specs.Tables.{is_header, section_of, sections_in}
use Rattle.section_tables.proofs.EachLemmas.{each_none_more}
use Rattle.section_tables.proofs.RecordsLemmas.{begins_with, are_all}

in_none : sections_in [] ≡ None
unfolding sections_in
in_none = refl

under_header : (header : List (List ℕ)) (rows : List (List (List ℕ))) → is_header header ≡ true → sections_in (header ∷ rows) ≡ each section_of rows
unfolding sections_in
under_header header rows e = rw e refl

under_none : (header : List (List ℕ)) (rows : List (List (List ℕ))) → is_header header ≡ false → sections_in (header ∷ rows) ≡ None
unfolding sections_in
under_none header rows e = rw e refl

-- no record
pub no_records : (text : List ℕ) → next_record default_config st.StartRecord [] [] text ≡ None → sections_in (records default_config text) ≡ None
unfolding Reached
no_records text e = ap sections_in (are_all text [] st.StartRecord text (refl, refl) e) ∙ in_none

-- a first record that is no header
pub no_header : (text : List ℕ) (header : List (List ℕ)) (s : State) (ys : List ℕ) → Reached default_config st.StartRecord text (header ∷ []) s ys → is_header header ≡ false
    → sections_in (records default_config text) ≡ None
no_header text header s ys h e =
    let more = begins_with text (header ∷ []) s ys h in
    ap sections_in more.1 ∙ under_none header ([] ++ more.0) e

-- a record that is no section
no_section : (text : List ℕ) (header f : List (List ℕ)) (rows : List (List (List ℕ))) (found : List Section) (s : State) (ys : List ℕ)
    → Reached default_config st.StartRecord text (header ∷ (rows ++ f ∷ [])) s ys → is_header header ≡ true → each section_of rows ≡ Some found → section_of f ≡ None
    → sections_in (records default_config text) ≡ None
no_section text header f rows found s ys h named e none =
    let more = begins_with text (header ∷ (rows ++ f ∷ [])) s ys h in
    ap sections_in more.1 ∙ under_header header ((rows ++ f ∷ []) ++ more.0) named ∙ ap (each section_of) (append_assoc rows (f ∷ []) more.0) ∙ each_none_more section_of rows f more.0 found e none

pub section_refused : (text : List ℕ) (header f : List (List ℕ)) (rows : List (List (List ℕ))) (found : List Section) (s : State) (ys : List ℕ) (e : TableErr)
    → Reached default_config st.StartRecord text (header ∷ (rows ++ f ∷ [])) s ys → is_header header ≡ true → each section_of rows ≡ Some found → MayAnswer {A = Section} (Err e) (section_of f)
    → MayAnswer {A = List Section} (Err e) (sections_in (records default_config text))
section_refused text header f rows found s ys Refused h named so_far none = no_section text header f rows found s ys h named so_far none
section_refused text header f rows found s ys NoMemory h named so_far none = tt

-- all records
pub all_sections : (text : List ℕ) (header : List (List ℕ)) (rows : List (List (List ℕ))) (found : List Section) (s : State) (ys : List ℕ)
    → Reached default_config st.StartRecord text (header ∷ rows) s ys → next_record default_config s [] [] ys ≡ None → is_header header ≡ true → each section_of rows ≡ Some found
    → sections_in (records default_config text) ≡ Some found
all_sections text header rows found s ys h e named so_far = ap sections_in (are_all text (header ∷ rows) s ys h e) ∙ under_header header rows named ∙ so_far
