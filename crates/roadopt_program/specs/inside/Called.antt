-- The form and the command that the code has for words, as those of the specifications.
use Rattle.std.specs.Prelude.{◌≤◌, Option, Some, ℤ}
use Rattle.roadopt_program.specs.declared.forms.Command.{Command as Called}
use Rattle.roadopt_program.specs.declared.forms.Command.TheVariants.{OnRoad, Trial}
use Rattle.roadopt_program.specs.declared.forms.Form.{Form as FormCalled}
use Rattle.roadopt_program.specs.declared.forms.Form.TheVariants.{TwoFiles, Number, ToNew}
use Rattle.roadopt_program.specs.declared.forms.RoadCommand.{RoadCommand as RoadCalled}
use Rattle.roadopt_program.specs.declared.forms.Verb.{Verb as VerbCalled}
use Rattle.roadopt_program.specs.declared.forms.Verb.TheVariants.{Judge as JudgeCalled, Check as CheckCalled, Replay as ReplayCalled, Solve as SolveCalled, Mass as MassCalled, Carry as CarryCalled}
use Rattle.roadopt_program.specs.CommandWords.{Verb, Judge, Check, Replay, Solve, Mass, Carry, Form, two_files, a_number, to_new, RoadCommand, Command, on_road, trial, trial_of}

abbrev pub verb_called : VerbCalled → Verb
verb_called JudgeCalled = Judge
verb_called CheckCalled = Check
verb_called ReplayCalled = Replay
verb_called SolveCalled = Solve
verb_called MassCalled = Mass
verb_called (CarryCalled new) = Carry new.now

abbrev pub form_called : FormCalled → Form
form_called (TwoFiles verb) = two_files (verb_called verb)
form_called Number = a_number
form_called ToNew = to_new

abbrev pub road_called : RoadCalled → RoadCommand
road_called command = record { verb = verb_called command.verb; road = command.road.now; other = command.other.now }

abbrev pub called : Called → Command
called (OnRoad command) = on_road (road_called command)
called (Trial number) = trial number

abbrev pub number_called : ℤ → Option Command
number_called number = trial_of (Some number)

-- the number of a trial is one that has a road
abbrev pub IsCallable : Called → Type 0
IsCallable (OnRoad command) = Unit {0}
IsCallable (Trial number) = number ≤ 999999999
