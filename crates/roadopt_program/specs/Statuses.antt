-- The ends of a run, by their status.
--     exit_status      the number that the program ends with
--     is_answer, is_refusal      an end with an answer; one that refuses what a file says, with one line
--     may_hand_out      an end at which what a search found is handed out
--     is_silent      an end at which nothing is printed
use Rattle.std.specs.Prelude.{ℕ, Bool, true, false}
use Rattle.roadopt_program.specs.declared.status.Status.{Status}
use Rattle.roadopt_program.specs.declared.status.Status.TheVariants.{Done, Gap, Usage, ReadFault, WriteFault, RoadRefused, CertRefused, NoMemory, PlanBroken, PlanRefused, Missing}

abbrev pub exit_status : Status → ℕ
exit_status Done = 0
exit_status Gap = 1
exit_status Usage = 2
exit_status ReadFault = 3
exit_status WriteFault = 4
exit_status RoadRefused = 5
exit_status CertRefused = 6
exit_status NoMemory = 7
exit_status PlanBroken = 8
exit_status PlanRefused = 9
exit_status Missing = 10

-- an answer was due, and it stands
abbrev pub is_answer : Status → Bool
is_answer Done = true
is_answer Gap = true
is_answer _ = false

-- an answer stands, or it was lost as it was written or printed
abbrev pub may_hand_out : Status → Bool
may_hand_out Done = true
may_hand_out Gap = true
may_hand_out WriteFault = true
may_hand_out _ = false

-- a road, a certificate or a plan is refused
abbrev pub is_refusal : Status → Bool
is_refusal RoadRefused = true
is_refusal CertRefused = true
is_refusal PlanBroken = true
is_refusal PlanRefused = true
is_refusal _ = false

-- a file wasn't read or isn't there, or memory was wanting
abbrev pub is_silent : Status → Bool
is_silent ReadFault = true
is_silent Missing = true
is_silent NoMemory = true
is_silent _ = false
