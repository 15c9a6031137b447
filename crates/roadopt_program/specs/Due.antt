-- What is due at the end of a run, in the order of the call: the road, then what follows an accepted road.
--     road_due road table      the road that the given bytes stand for, or the end that is due where they stand for none
--     FollowsRoad verb road name other found end      the end of the command on an accepted road
--     IsDue told command found end, Due told words found end      the end is due where these files are told
-- A search has many answers that are right, and so has what is carried: what was found is said beside the end; of a run without it, it is none.
use Rattle.std.specs.Prelude.{◌≡◌, ℕ, Option, Some, None, Result, Ok, Err, List}
use Rattle.outside.specs.Files.{Files}
use Rattle.road_types.specs.declared.fault.Fault.{Fault}
use Rattle.road_types.specs.declared.road.Road.{Road}
use Rattle.road_file.specs.RoadOf.{table_name_of, road_of}
use Rattle.roadopt_program.specs.declared.ending.Product.{Product}
use Rattle.roadopt_program.specs.declared.status.Status.TheVariants.{RoadRefused}
use Rattle.roadopt_program.specs.Ends.{End, said, missing_end}
use Rattle.roadopt_program.specs.CommandWords.{Verb, Judge, Check, Replay, Solve, Mass, Carry, RoadCommand, Command, on_road, trial, command_of, name_written}
use Rattle.roadopt_program.specs.Inputs.{GivenFiles, AreGiven}
use Rattle.roadopt_program.specs.Judging.{Judges}
use Rattle.roadopt_program.specs.CertChecking.{Checks}
use Rattle.roadopt_program.specs.Replaying.{Replays, Masses}
use Rattle.roadopt_program.specs.Solving.{Solves}
use Rattle.roadopt_program.specs.Carrying.{Carries}
use Rattle.roadopt_program.specs.Trying.{Tries}
use Rattle.roadopt_program.specs.Printed.{road_refused_line}

-- the first step, and with its value the next one; the end that is due early ends them
infixl 10 ◌>>=◌
abbrev pub ◌>>=◌ : {A B : Type 0} → Result A End → (A → Result B End) → Result B End
(Ok x) >>= next = next x
(Err early) >>= next = Err early

-- what was read of a road's file, or the end that is due for its first fault
abbrev pub keeps_rules : {A : Type 0} → Result A Fault → Result A End
keeps_rules (Ok x) = Ok x
keeps_rules (Err fault) = Err (said RoadRefused (road_refused_line fault))

-- a file that has to be there
abbrev pub is_there : Option (List ℕ) → Result (List ℕ) End
is_there (Some bytes) = Ok bytes
is_there None = Err missing_end

-- a section table has to be there where one is named
abbrev pub is_table_there : Option (List ℕ) → Option (List ℕ) → Result (Option (List ℕ)) End
is_table_there None table = Ok None
is_table_there (Some name) (Some csv) = Ok (Some csv)
is_table_there (Some name) None = Err missing_end

-- the road of a file and of the section table that it names: its faults up to the table's name come before the table
unfoldable pub road_due : Option (List ℕ) → Option (List ℕ) → Result Road End
road_due road table = do
  bytes ← is_there road
  name ← keeps_rules (table_name_of bytes)
  csv ← is_table_there name table
  keeps_rules (road_of bytes csv)

-- the end of each command on an accepted road, for what its further file gives, or for what a search found; the name is that of the file
-- that is written
abbrev pub FollowsRoad : Verb → Road → List ℕ → Option (List ℕ) → Option Product → End → Type 0
FollowsRoad Judge road name plan found end = (found ≡ None) × Judges road plan end
FollowsRoad Check road name cert found end = (found ≡ None) × Checks road cert end
FollowsRoad Replay road name cert found end = (found ≡ None) × Replays road cert end
FollowsRoad Solve road name given found end = Solves road name found end
FollowsRoad Mass road name cert found end = (found ≡ None) × Masses road cert end
FollowsRoad (Carry new) road name cert found end = Carries road name cert found end

-- the end for what was made of the road's file
abbrev pub Follows : Verb → Result Road End → List ℕ → Option (List ℕ) → Option Product → End → Type 0
Follows verb (Err early) name other found end = (found ≡ None) × (end ≡ early)
Follows verb (Ok road) name other found end = FollowsRoad verb road name other found end

-- the end that is due for a command over two files, where these files are told
pub record IsDueOnRoad (told : Option Files) (command : RoadCommand) (found : Option Product) (end : End) : Type 0 where
  pub given : GivenFiles
  pub are_given : AreGiven told command given
  pub follows : Follows command.verb (road_due given.road given.table) (name_written command) given.other found end

-- the end that is due for a command
abbrev pub IsDue : Option Files → Command → Option Product → End → Type 0
IsDue told (on_road command) found end = IsDueOnRoad told command found end
IsDue told (trial number) found end = Tries number found end

-- the words are a form, and the end is due for them
pub record Due (told : Option Files) (words : List (List ℕ)) (found : Option Product) (end : End) : Type 0 where
  pub command : Command
  pub form : command_of words ≡ Some command
  pub is_due : IsDue told command found end
