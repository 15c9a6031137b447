-- What is due at the end of a run, and what was put out of it.
--     NamedBytes      a file that is to be written: its name and its bytes
--     End      a status, the bytes that are due for the output, and the file that is written, if any
--     said status line      an end that writes no file; missing_end is one, of a file that isn't there
--     files_with told file      the files once the due one is written
--     Output, Says      what the sink was given
--     after_fault status      how a run ends where its output couldn't be written
use Rattle.std.specs.Prelude.{ℕ, ◌⊎◌, Option, Some, None, List, []}
use Rattle.outside.specs.Faults.{HasRisen}
use Rattle.outside.specs.Files.{Files, with_file}
use Rattle.outside.specs.Written.{GrewBy, GrewByPrefix}
use Rattle.roadopt_program.specs.declared.status.Status.{Status}
use Rattle.roadopt_program.specs.declared.status.Status.TheVariants.{Done, Gap, WriteFault, Missing}

-- a file that is to be written
pub record NamedBytes : Type 0 where
  pub name : List ℕ
  pub bytes : List ℕ

-- what is due at the end of a run
pub record End : Type 0 where
  pub status : Status
  pub output : List ℕ
  pub file : Option NamedBytes

-- an end that prints this and writes no file
abbrev pub said : Status → List ℕ → End
said status line = record { status = status; output = line; file = None }

-- a file that is to be read isn't there; nothing is printed
abbrev pub missing_end : End
missing_end = said Missing []

-- the files once the one that is due is written
abbrev pub files_with : Option Files → Option NamedBytes → Option Files
files_with told None = told
files_with told (Some file) = with_file told file.name file.bytes

-- what a sink was given and how many of its puts have failed
pub record Output : Type 0 where
  pub written : Option (List ℕ)
  pub faults : ℕ

-- the line stands whole behind what was written; or a put failed, and a prefix of it stands there
abbrev pub Says : List ℕ → Output → Output → Type 0
Says line before now =
    GrewBy before.written line now.written ⊎ (HasRisen before.faults now.faults × GrewByPrefix before.written line now.written)

-- how a run ends where its output couldn't be written: an answer is lost, a refusal stays
abbrev pub after_fault : Status → Status
after_fault Done = WriteFault
after_fault Gap = WriteFault
after_fault status = status
