-- What `trial NUMBER` answers: the status and the line that are due for what the search of the trial road found. No file is read or written.
use Rattle.std.specs.Prelude.{◌≡◌, ℕ, Option, Some, None}
use Rattle.road_types.specs.Faults.{road_fault}
use Rattle.trial_roads.specs.TrialRoads.{trial_road}
use Rattle.branch_bound.specs.Found.{IsFound}
use Rattle.branch_bound.specs.declared.finding.Found.{Found}
use Rattle.roadopt_program.specs.declared.ending.Product.{Product}
use Rattle.roadopt_program.specs.declared.ending.Product.TheVariants.{Searched}
use Rattle.roadopt_program.specs.Ends.{End}
use Rattle.roadopt_program.specs.Printed.{trial_line}
use Rattle.roadopt_program.specs.Solving.{HasStatus}

-- a search of the trial road, which no rule of roads refuses, found this, and its line is printed
pub record TriesBy (number : ℕ) (found : Found) (end : End) : Type 0 where
  pub accepted : road_fault (trial_road number) ≡ None
  pub is_found : IsFound (trial_road number) found
  pub status : HasStatus end.status found.cert.cost found.cert.bound
  pub line : end.output ≡ trial_line number (trial_road number) found.count found.cert.cost found.cert.bound end.status
  pub no_file : end.file ≡ None

abbrev pub Tries : ℕ → Option Product → End → Type 0
Tries number (Some (Searched found)) end = TriesBy number found end
Tries number _ end = ⊥
