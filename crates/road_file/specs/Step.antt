-- Steps that may end in a fault, one after another: the first fault is the answer. Also what a call may answer where this is due.
use Rattle.std.specs.Prelude.{◌≡◌, Result, Ok, Err, Bool, if◌then◌else◌}
use Rattle.road_types.specs.declared.fault.Fault.{Fault}
use Rattle.road_file.specs.declared.error.RoadErr.{RoadErr}
use Rattle.road_file.specs.declared.error.RoadErr.TheVariants.{Refused, NoMemory}

-- the first step, and with its value the next one
infixl 10 ◌>>=◌
abbrev pub ◌>>=◌ : {A B : Type 0} → Result A Fault → (A → Result B Fault) → Result B Fault
(Ok x) >>= next = next x
(Err fault) >>= next = Err fault

-- a value where a rule is kept, else the rule's fault
abbrev pub where_kept : {A : Type 0} → Bool → Fault → A → Result A Fault
where_kept rule fault x = if rule then Ok x else Err fault

-- what may be answered where this is due: its value, or its fault; want of memory may be answered wherever it comes
abbrev pub MayAnswer : {A : Type 0} → Result A RoadErr → Result A Fault → Type 0
MayAnswer (Ok x) due = due ≡ Ok x
MayAnswer (Err (Refused fault)) due = due ≡ Err fault
MayAnswer (Err NoMemory) due = Unit {0}

-- the same of a value that stands for what is due
abbrev pub MayAnswerAs : {A B : Type 0} → (A → B) → Result A RoadErr → Result B Fault → Type 0
MayAnswerAs stands_for (Ok x) due = due ≡ Ok (stands_for x)
MayAnswerAs stands_for (Err (Refused fault)) due = due ≡ Err fault
MayAnswerAs stands_for (Err NoMemory) due = Unit {0}
