-- What the private functions of a run hand on to each other.
--     end_of, made_end      what was made, as an end
--     MakesRoad, IsRoadMade, IsRoadRead      the road that was made is the one that is due
--     IsMadeOnRoad, IsMade, IsMadeFor      what was made is what is due
--     Prints, Finishes      what became of a due end; IsCarriedOut, Outcome, IsTried, TrialOutcome, TriesOnly      of a whole run
use Rattle.std.specs.Prelude.{◌≡◌, ℕ, ◌⊎◌, IsTrue, Option, Some, None, Result, Ok, Err, List}
use Rattle.std.specs.Option.{option_map}
use Rattle.outside.specs.Faults.{HasRisen}
use Rattle.outside.specs.Files.{Files}
use Rattle.outside.specs.Written.{GrewBy, GrewByPrefix}
use Rattle.road_types.specs.declared.road.Road.{Road}
use Rattle.cert_text.specs.declared.cert.Cert.{Cert}
use Rattle.branch_bound.specs.declared.notes.NodeNote.{NodeNote}
use Rattle.roadopt_program.specs.declared.ending.Ending.{Ending}
use Rattle.roadopt_program.specs.declared.ending.Made.{Made}
use Rattle.roadopt_program.specs.declared.ending.Product.{Product}
use Rattle.roadopt_program.specs.declared.status.Status.{Status}
use Rattle.roadopt_program.specs.declared.status.Status.TheVariants.{WriteFault, NoMemory}
use Rattle.roadopt_program.specs.Due.{road_due, FollowsRoad, IsDueOnRoad}
use Rattle.roadopt_program.specs.Ends.{End, NamedBytes, said, Output, after_fault, files_with}
use Rattle.roadopt_program.specs.CommandWords.{RoadCommand, Command, on_road, trial, name_written}
use Rattle.roadopt_program.specs.Inputs.{road_limit, other_limit, IsGiven, IsGivenWithin, IsGivenIfNamed, table_named}
use Rattle.roadopt_program.specs.Runs.{HandsOut, IsUnwritten, IsGivenUp}
use Rattle.roadopt_program.specs.Statuses.{is_silent}
use Rattle.roadopt_program.specs.Trying.{Tries}

-- the end that prints this and writes no file
abbrev pub end_of : Ending → End
end_of ending = said ending.status ending.output.items

-- the end that prints this, and writes the text, if any, to the named file
abbrev pub made_end : List ℕ → Made → End
made_end name made = record {
  status = made.ending.status;
  output = made.ending.output.items;
  file = option_map (λ text. record { name = name; bytes = text.items }) made.text;
}

-- the run ends with the status; it is silent, or its output stands whole; or a put failed, and the run ends as it then does
abbrev pub Prints : Status → List ℕ → Output → Output → Status → Type 0
Prints status output before now ended =
    ((ended ≡ status) × IsTrue (is_silent status))
    ⊎ (((ended ≡ status) × GrewBy before.written output now.written)
    ⊎ ((ended ≡ after_fault status) × HasRisen before.faults now.faults × GrewByPrefix before.written output now.written))

-- its file was written, and its output printed; or a write failed, and nothing was put
abbrev pub Finishes : Option Files → Option Files → End → ℕ → ℕ → Output → Output → Status → Type 0
Finishes told files end writes_before writes_now before now ended =
    ((files ≡ files_with told end.file) × Prints end.status end.output before now ended)
    ⊎ ((file : NamedBytes) × (end.file ≡ Some file) × (ended ≡ WriteFault) × IsUnwritten told files file writes_before writes_now before now)

-- what was made of a road's bytes is what is due for them
abbrev pub MakesRoad : Result Road End → Result Road Ending → Type 0
MakesRoad due (Ok road) = due ≡ Ok road
MakesRoad due (Err ending) = due ≡ Err (end_of ending)

-- it was made of the bytes of a road's file and of what the table that they name gives
pub record IsRoadMade (told : Option Files) (bytes : List ℕ) (made : Result Road Ending) : Type 0 where
  pub table : Option (List ℕ)
  pub table_given : IsGivenIfNamed told (table_named (Some bytes)) road_limit table
  pub makes : MakesRoad (road_due (Some bytes) table) made

-- it was made of what the road's file and its table give; where the road's isn't there, no read failed
pub record IsRoadRead (told : Option Files) (name : List ℕ) (reads_before reads_now : ℕ) (made : Result Road Ending) : Type 0 where
  pub bytes : Option (List ℕ)
  pub is_given : IsGiven told name road_limit bytes
  pub table : Option (List ℕ)
  pub table_given : IsGivenIfNamed told (table_named bytes) road_limit table
  pub makes : MakesRoad (road_due bytes table) made
  pub no_fault : bytes ≡ None → reads_now ≡ reads_before

-- it was made of an accepted road and of what the further file gives, or of what a search found
pub record IsMadeOnRoad (told : Option Files) (command : RoadCommand) (road : Road) (made : Made) : Type 0 where
  pub bytes : Option (List ℕ)
  pub is_given : IsGivenWithin told command.other (other_limit command.verb) bytes
  pub follows : FollowsRoad command.verb road (name_written command) bytes made.found (made_end (name_written command) made)

-- what was made is due; where the road's file isn't there, no read failed
pub record IsMade (told : Option Files) (command : RoadCommand) (reads_before reads_now : ℕ) (made : Made) : Type 0 where
  pub due : IsDueOnRoad told command made.found (made_end (name_written command) made)
  pub no_fault : due.given.road ≡ None → reads_now ≡ reads_before

-- the same of an end, for each command
pub record IsMadeOfRoad (told : Option Files) (command : RoadCommand) (reads_before reads_now : ℕ) (found : Option Product) (end : End) : Type 0 where
  pub due : IsDueOnRoad told command found end
  pub no_fault : due.given.road ≡ None → reads_now ≡ reads_before

abbrev pub IsMadeFor : Option Files → Command → ℕ → ℕ → Option Product → End → Type 0
IsMadeFor told (on_road command) reads_before reads_now found end = IsMadeOfRoad told command reads_before reads_now found end
IsMadeFor told (trial number) reads_before reads_now found end = Tries number found end

-- what is due was made, written and printed, as far as that went, and what was found is handed out
pub record IsCarriedOut (told : Option Files) (command : Command) (files : Option Files) (reads_before reads_now writes_before writes_now : ℕ) (before now : Output) (status : Status) (cert : Option Cert) (notes : List NodeNote) : Type 0 where
  pub found : Option Product
  pub end : End
  pub made : IsMadeFor told command reads_before reads_now found end
  pub finishes : Finishes told files end writes_before writes_now before now status
  pub hands_out : HandsOut found cert notes

-- nothing was written, and nothing is handed out
pub record IsLeft (told files : Option Files) (reads_before reads_now : ℕ) (status : Status) (cert : Option Cert) (notes : List NodeNote) : Type 0 where
  pub given_up : IsGivenUp reads_before reads_now status
  pub files_kept : files ≡ told
  pub hands_out : HandsOut None cert notes

-- a run of a command was carried out or given up
abbrev pub Outcome : Option Files → Command → Option Files → ℕ → ℕ → ℕ → ℕ → Output → Output → Status → Option Cert → List NodeNote → Type 0
Outcome told command files reads_before reads_now writes_before writes_now before now status cert notes =
    IsCarriedOut told command files reads_before reads_now writes_before writes_now before now status cert notes
    ⊎ IsLeft told files reads_before reads_now status cert notes

-- the line of a trial was printed, as far as that went, and what was found is handed out
pub record IsTried (number : ℕ) (before now : Output) (status : Status) (cert : Option Cert) (notes : List NodeNote) : Type 0 where
  pub found : Option Product
  pub end : End
  pub tries : Tries number found end
  pub prints : Prints end.status end.output before now status
  pub hands_out : HandsOut found cert notes

-- a trial was tried, or memory was wanting
abbrev pub TrialOutcome : ℕ → Output → Output → Status → Option Cert → List NodeNote → Type 0
TrialOutcome number before now status cert notes = IsTried number before now status cert notes ⊎ ((status ≡ NoMemory) × HandsOut None cert notes)

-- where a command is a trial, this is how it went
abbrev pub TriesOnly : Command → Output → Output → Status → Option Cert → List NodeNote → Type 0
TriesOnly (on_road command) before now status cert notes = Unit {0}
TriesOnly (trial number) before now status cert notes = TrialOutcome number before now status cert notes
