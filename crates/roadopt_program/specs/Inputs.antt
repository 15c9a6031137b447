-- The bytes of the files that a run reads.
--     road_limit, cert_limit      how many bytes of a road or a plan, or of a certificate, are read at the most
--     IsGiven told name most given      what a read of the named file gives: its bytes up to the limit, or none where there is no such file
--     table_named road      the name of the section table in what the road's file gives
--     GivenFiles, AreGiven told command given      the same for all the files of a command
use Rattle.std.specs.Prelude.{◌≡◌, ℕ, ◌+◌, Option, Some, None, Result, Ok, Err, List, IfSome, take}
use Rattle.std.specs.Option.{option_map}
use Rattle.std.specs.FinMap.{get}
use Rattle.outside.specs.Files.{Files}
use Rattle.road_types.specs.Limits.{longest_file}
use Rattle.road_types.specs.declared.fault.Fault.{Fault}
use Rattle.road_file.specs.RoadOf.{table_name_of}
use Rattle.cert_text.specs.Validity.{longest_text}
use Rattle.roadopt_program.specs.CommandWords.{Verb, Judge, Check, Replay, Solve, Mass, Carry, RoadCommand}

-- one more byte than a road file may have
unfoldable pub road_limit : ℕ
road_limit = longest_file + 1

-- one more byte than a certificate's text may have
unfoldable pub cert_limit : ℕ
cert_limit = longest_text + 1

-- how many bytes of a command's further file are read at the most; a search reads none, since its further file is written
abbrev pub other_limit : Verb → Option ℕ
other_limit Judge = Some road_limit
other_limit Check = Some cert_limit
other_limit Replay = Some cert_limit
other_limit Solve = None
other_limit Mass = Some cert_limit
other_limit (Carry new) = Some cert_limit

-- where files are told: the first `most` bytes of the named one, or none where there is no such file
abbrev pub IsGiven : Option Files → List ℕ → ℕ → Option (List ℕ) → Type 0
IsGiven told name most given = IfSome told (λ files. given ≡ option_map (take most) (get files name))

-- the same of a file that is read up to a limit, where there is one; where there is none, nothing is given
abbrev pub IsGivenWithin : Option Files → List ℕ → Option ℕ → Option (List ℕ) → Type 0
IsGivenWithin told name None given = given ≡ None
IsGivenWithin told name (Some most) given = IsGiven told name most given

-- the name in what was read of a road file; a refused file names none
abbrev pub name_read : Result (Option (List ℕ)) Fault → Option (List ℕ)
name_read (Ok name) = name
name_read (Err fault) = None

-- the name of the section table, where a road's file is there and names one
abbrev pub table_named : Option (List ℕ) → Option (List ℕ)
table_named None = None
table_named (Some road) = name_read (table_name_of road)

-- the same of a file that is read where one is named; where none is, nothing is given
abbrev pub IsGivenIfNamed : Option Files → Option (List ℕ) → ℕ → Option (List ℕ) → Type 0
IsGivenIfNamed told None most given = given ≡ None
IsGivenIfNamed told (Some name) most given = IsGiven told name most given

-- what the files of a command hold, none where there is no such file
pub record GivenFiles : Type 0 where
  pub road : Option (List ℕ)
  pub table : Option (List ℕ)
  pub other : Option (List ℕ)

-- these are the files' bytes; the section table is the one that the road's file names
pub record AreGiven (told : Option Files) (command : RoadCommand) (given : GivenFiles) : Type 0 where
  pub road : IsGiven told command.road road_limit given.road
  pub table : IsGivenIfNamed told (table_named given.road) road_limit given.table
  pub other : IsGivenWithin told command.other (other_limit command.verb) given.other
