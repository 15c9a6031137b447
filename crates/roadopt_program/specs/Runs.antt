-- What stands behind each end of a run, and what a due end makes of a run.
--     HandsOut found cert notes      what a search found is handed out
--     IsAnswered, IsRefused, IsMissing, IsLost      by the status of the run
--     IsUnwritten, IsUnprinted      the two ways in which an answer is lost
--     IsGivenUp, Reaches      a read failed or memory was wanting; an end is reached, or lost at a put, or the run was given up
--     EndsAsDue, AnswersSolve, AnswersCarry, AnswersTrial      the other direction: the run ends as it is due, or with an answer of a search, or something failed
--     HasOneEnd      told files leave one due end beside what a search found
use Rattle.std.specs.Prelude.{◌≡◌, ℕ, ◌⊎◌, IsTrue, Option, Some, None, Ok, List, []}
use Rattle.outside.specs.Faults.{HasRisen}
use Rattle.outside.specs.Files.{Files, KeepsOrCuts}
use Rattle.outside.specs.Written.{GrewBy, GrewByPrefix}
use Rattle.cert_text.specs.declared.cert.Cert.{Cert}
use Rattle.branch_bound.specs.declared.notes.NodeNote.{NodeNote}
use Rattle.road_types.specs.declared.road.Road.{Road}
use Rattle.roadopt_program.specs.declared.ending.Product.{Product}
use Rattle.roadopt_program.specs.declared.ending.Product.TheVariants.{Searched, Carried}
use Rattle.roadopt_program.specs.declared.status.Status.{Status}
use Rattle.roadopt_program.specs.declared.status.Status.TheVariants.{ReadFault, WriteFault, NoMemory}
use Rattle.roadopt_program.specs.Due.{IsDueOnRoad, Due}
use Rattle.roadopt_program.specs.Ends.{End, NamedBytes, Output, Says, after_fault, files_with, missing_end}
use Rattle.roadopt_program.specs.CommandWords.{Solve, Carry, RoadCommand, on_road, trial, command_of}
use Rattle.roadopt_program.specs.Headline.{IsRoadOf}
use Rattle.roadopt_program.specs.Inputs.{cert_limit, IsGiven}
use Rattle.cert_checker.specs.Carriable.{IsCarriableCert}
use Rattle.roadopt_program.specs.Statuses.{is_answer}

-- the certificate that was found or carried; without one there is none
abbrev pub cert_found : Option Product → Option Cert
cert_found None = None
cert_found (Some (Searched found)) = Some found.cert
cert_found (Some (Carried cert)) = Some cert

-- the notes of what was found; without a search there are none
abbrev pub notes_found : Option Product → List NodeNote
notes_found None = []
notes_found (Some (Searched found)) = found.notes
notes_found (Some (Carried cert)) = []

-- the certificate and the notes of a search are handed out; without a search there are none
pub record HandsOut (found : Option Product) (cert : Option Cert) (notes : List NodeNote) : Type 0 where
  pub cert_is : cert ≡ cert_found found
  pub notes_are : notes ≡ notes_found found

-- an answer with this status is due, its output stands whole behind what was written, its file is written, and what was found is handed out
pub record IsAnswered (told : Option Files) (words : List (List ℕ)) (status : Status) (cert : Option Cert) (notes : List NodeNote) (files : Option Files) (before now : Output) : Type 0 where
  pub found : Option Product
  pub end : End
  pub due : Due told words found end
  pub status_is : end.status ≡ status
  pub whole : GrewBy before.written end.output now.written
  pub file_is : files ≡ files_with told end.file
  pub hands_out : HandsOut found cert notes

-- a refusal with this status is due, and its line stands there; or a put failed, and a prefix of it stands there
pub record IsRefused (told : Option Files) (words : List (List ℕ)) (status : Status) (before now : Output) : Type 0 where
  pub end : End
  pub due : Due told words None end
  pub status_is : end.status ≡ status
  pub says : Says end.output before now

-- a file that is due isn't there; where it is the road's, no read failed
pub record IsMissing (told : Option Files) (words : List (List ℕ)) (reads_before reads_now : ℕ) : Type 0 where
  pub command : RoadCommand
  pub form : command_of words ≡ Some (on_road command)
  pub due : IsDueOnRoad told command None missing_end
  pub no_fault : due.given.road ≡ None → reads_now ≡ reads_before

-- the file of an answer wasn't written: a write failed, and nothing was put
pub record IsUnwritten (told files : Option Files) (file : NamedBytes) (writes_before writes_now : ℕ) (before now : Output) : Type 0 where
  pub risen : HasRisen writes_before writes_now
  pub cut : KeepsOrCuts told file.name file.bytes files
  pub nothing_put : now ≡ before

-- the answer wasn't printed: a put failed, and a prefix of it stands there; its file is written
pub record IsUnprinted (told files : Option Files) (end : End) (before now : Output) : Type 0 where
  pub risen : HasRisen before.faults now.faults
  pub front : GrewByPrefix before.written end.output now.written
  pub file_is : files ≡ files_with told end.file

-- one of the two
abbrev pub LosesAnswer : Option Files → Option Files → End → ℕ → ℕ → Output → Output → Type 0
LosesAnswer told files end writes_before writes_now before now =
    ((file : NamedBytes) × (end.file ≡ Some file) × IsUnwritten told files file writes_before writes_now before now)
    ⊎ IsUnprinted told files end before now

-- an answer is due, but it was lost as it was written or printed; what was found is handed out
pub record IsLost (told : Option Files) (words : List (List ℕ)) (cert : Option Cert) (notes : List NodeNote) (files : Option Files) (writes_before writes_now : ℕ) (before now : Output) : Type 0 where
  pub found : Option Product
  pub end : End
  pub due : Due told words found end
  pub answer : IsTrue (is_answer end.status)
  pub loses : LosesAnswer told files end writes_before writes_now before now
  pub hands_out : HandsOut found cert notes

-- the run was given up: a read failed, or memory was wanting
abbrev pub IsGivenUp : ℕ → ℕ → Status → Type 0
IsGivenUp reads_before reads_now status = ((status ≡ ReadFault) × HasRisen reads_before reads_now) ⊎ (status ≡ NoMemory)

-- a run for which this end is due without a search ends so; or a put failed; or the run was given up
abbrev pub Reaches : End → ℕ → ℕ → Output → Output → Status → Type 0
Reaches end reads_before reads_now before now status =
    (status ≡ end.status)
    ⊎ (((status ≡ after_fault end.status) × HasRisen before.faults now.faults)
    ⊎ IsGivenUp reads_before reads_now status)

-- where files are told and an end is due without a search, the run reaches it
abbrev pub EndsAsDue : Option Files → List (List ℕ) → ℕ → ℕ → Output → Output → Status → Type 0
EndsAsDue told words reads_before reads_now before now status =
    (files : Files) (end : End) → told ≡ Some files → Due told words None end → Reaches end reads_before reads_now before now status

-- a search of an accepted road, which told files give, has an answer; or a write or a put failed; or the run was given up
abbrev pub AnswersSolve : Option Files → List (List ℕ) → ℕ → ℕ → ℕ → ℕ → Output → Output → Status → Type 0
AnswersSolve told words reads_before reads_now writes_before writes_now before now status =
    (files : Files) (road_name cert_name : List ℕ) (road : Road) → told ≡ Some files
    → command_of words ≡ Some (on_road (record { verb = Solve; road = road_name; other = cert_name }))
    → IsRoadOf told road_name (Ok road)
    → IsTrue (is_answer status)
    ⊎ (((status ≡ WriteFault) × (HasRisen writes_before writes_now ⊎ HasRisen before.faults now.faults))
    ⊎ IsGivenUp reads_before reads_now status)

-- where told files give an accepted road and the text of a certificate whose bound can be carried, it is; or a write or a put failed; or the
-- run was given up
abbrev pub AnswersCarry : Option Files → List (List ℕ) → ℕ → ℕ → ℕ → ℕ → Output → Output → Status → Type 0
AnswersCarry told words reads_before reads_now writes_before writes_now before now status =
    (files : Files) (road_name cert_name new_name bytes : List ℕ) (road : Road) (given : Cert) → told ≡ Some files
    → command_of words ≡ Some (on_road (record { verb = Carry new_name; road = road_name; other = cert_name }))
    → IsRoadOf told road_name (Ok road) → IsGiven told cert_name cert_limit (Some bytes) → IsCarriableCert road bytes given
    → IsTrue (is_answer status)
    ⊎ (((status ≡ WriteFault) × (HasRisen writes_before writes_now ⊎ HasRisen before.faults now.faults))
    ⊎ IsGivenUp reads_before reads_now status)

-- the search of every trial road has an answer; or a put failed; or memory was wanting
abbrev pub AnswersTrial : List (List ℕ) → Output → Output → Status → Type 0
AnswersTrial words before now status =
    (number : ℕ) → command_of words ≡ Some (trial number)
    → IsTrue (is_answer status) ⊎ (((status ≡ WriteFault) × HasRisen before.faults now.faults) ⊎ (status ≡ NoMemory))

-- where files are told, one end is due beside what a search found, or without one: its status, its output and its file
abbrev pub HasOneEnd : Option Files → List (List ℕ) → Type 0
HasOneEnd told words = (files : Files) (found : Option Product) (a b : End) → told ≡ Some files → Due told words found a → Due told words found b → a ≡ b
