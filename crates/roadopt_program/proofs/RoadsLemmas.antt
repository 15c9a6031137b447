-- A road by its file and by the section table that this names.
use Rattle.std.specs.Prelude.{ℕ, Option, Some, None, Result, Ok, Err, IfOk, List}
use Rattle.std.proofs.Common.{◌≡◌, refl, subst}
use Rattle.outside.specs.Files.{Files}
use Rattle.road_types.specs.declared.fault.Fault.{Fault}
use Rattle.road_types.specs.declared.road.Road.{Road}
use Rattle.road_file.specs.RoadOf.{table_name_of, road_of}
use Rattle.roadopt_program.specs.declared.ending.Ending.{Ending}
use Rattle.roadopt_program.specs.declared.inputs.Lost.{Lost}
use Rattle.roadopt_program.specs.declared.status.Status.TheVariants.{RoadRefused}
use Rattle.roadopt_program.specs.Due.{keeps_rules, road_due}
use Rattle.roadopt_program.specs.Ends.{said, missing_end}
use Rattle.roadopt_program.specs.Inputs.{IsGiven, IsGivenIfNamed, name_read, table_named, road_limit}
use Rattle.roadopt_program.specs.Printed.{road_refused_line}
use Rattle.roadopt_program.specs.inside.Outcomes.{end_of, MakesRoad, IsRoadMade, IsRoadRead}

due_by_table : (bytes name csv : List ℕ) → table_name_of bytes ≡ Ok (Some name) → road_due (Some bytes) (Some csv) ≡ keeps_rules (road_of bytes (Some csv))
unfolding road_due
due_by_table bytes name csv e = rw e refl

due_without_table : (bytes name : List ℕ) → table_name_of bytes ≡ Ok (Some name) → road_due (Some bytes) None ≡ Err missing_end
unfolding road_due
due_without_table bytes name e = rw e refl

due_alone : (bytes : List ℕ) (table : Option (List ℕ)) → table_name_of bytes ≡ Ok None → road_due (Some bytes) table ≡ keeps_rules (road_of bytes None)
unfolding road_due
due_alone bytes table e = rw e refl

due_early : (bytes : List ℕ) (table : Option (List ℕ)) (fault : Fault) → table_name_of bytes ≡ Err fault → road_due (Some bytes) table ≡ Err (said RoadRefused (road_refused_line fault))
unfolding road_due
due_early bytes table fault e = rw e refl

named : (told : Option Files) (bytes name : List ℕ) (given : Option (List ℕ)) → table_name_of bytes ≡ Ok (Some name) → IsGiven told name road_limit given
    → IsGivenIfNamed told (table_named (Some bytes)) road_limit given
named told bytes name given e g = rw e g

unnamed : (told : Option Files) (bytes : List ℕ) (read : Result (Option (List ℕ)) Fault) → table_name_of bytes ≡ read → name_read read ≡ None → IsGivenIfNamed told (table_named (Some bytes)) road_limit None
unnamed told bytes read e none = rw (e, none) refl

-- the table was read
pub made_by_table : (told : Option Files) (bytes name csv : List ℕ) (made : Result Road Ending) → table_name_of bytes ≡ Ok (Some name) → IsGiven told name road_limit (Some csv)
    → MakesRoad (keeps_rules (road_of bytes (Some csv))) made → IsRoadMade told bytes made
made_by_table told bytes name csv made e g m = record {
  table = Some csv;
  table_given = named told bytes name (Some csv) e g;
  makes = rw (due_by_table bytes name csv e) m;
}

-- the named table isn't there
pub made_without_its_table : (told : Option Files) (bytes name : List ℕ) (ending : Ending) → table_name_of bytes ≡ Ok (Some name) → IsGiven told name road_limit None
    → end_of ending ≡ missing_end → IsRoadMade told bytes (Err ending)
made_without_its_table told bytes name ending e g m = record {
  table = None;
  table_given = named told bytes name None e g;
  makes = rw (due_without_table bytes name e, m) refl;
}

-- no table is named
pub made_alone : (told : Option Files) (bytes : List ℕ) (made : Result Road Ending) → table_name_of bytes ≡ Ok None
    → MakesRoad (keeps_rules (road_of bytes None)) made → IsRoadMade told bytes made
made_alone told bytes made e m = record {
  table = None;
  table_given = unnamed told bytes (Ok None) e refl;
  makes = rw (due_alone bytes None e) m;
}

-- the file is refused before its table is looked for
pub refused_early : (told : Option Files) (bytes : List ℕ) (fault : Fault) (ending : Ending) → table_name_of bytes ≡ Err fault
    → end_of ending ≡ said RoadRefused (road_refused_line fault) → IsRoadMade told bytes (Err ending)
refused_early told bytes fault ending e m = record {
  table = None;
  table_given = unnamed told bytes (Err fault) e refl;
  makes = rw (due_early bytes None fault e, m) refl;
}

read_made : (told : Option Files) (name bytes : List ℕ) (before now : ℕ) (made : Result Road Ending) → IsGiven told name road_limit (Some bytes)
    → IsRoadMade told bytes made → IsRoadRead told name before now made
read_made told name bytes before now made g r = record {
  bytes = Some bytes;
  is_given = g;
  table = r.table;
  table_given = r.table_given;
  makes = r.makes;
  no_fault = λ e. cc;
}

-- the road's file was read
pub read_and_made : (told mid : Option Files) (name bytes : List ℕ) (before now : ℕ) (result : Result (Result Road Ending) Lost) → mid ≡ told → IsGiven told name road_limit (Some bytes)
    → IfOk result (IsRoadMade mid bytes) → IfOk result (IsRoadRead told name before now)
read_and_made told mid name bytes before now (Ok made) same g r =
    read_made told name bytes before now made g (subst (λ (t : Option Files). IsRoadMade t bytes made) same r)
read_and_made told mid name bytes before now (Err lost) same g r = tt

due_nowhere : (table : Option (List ℕ)) → road_due None table ≡ Err missing_end
unfolding road_due
due_nowhere table = refl

-- it isn't there
pub no_road_there : (told : Option Files) (name : List ℕ) (before now : ℕ) (ending : Ending) → IsGiven told name road_limit None → now ≡ before → end_of ending ≡ missing_end
    → IsRoadRead told name before now (Err ending)
no_road_there told name before now ending g same m = record {
  bytes = None;
  is_given = g;
  table = None;
  table_given = refl;
  makes = rw m (due_nowhere None);
  no_fault = λ e. same;
}
