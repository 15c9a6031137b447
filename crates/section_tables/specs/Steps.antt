-- Steps that may find nothing, one after another; and what a call may answer where this is due.
use Rattle.std.specs.Prelude.{◌≡◌, List, [], ◌∷◌, Option, Some, None, Result, Ok, Err, Bool, if◌then◌else◌}
use Rattle.section_tables.specs.declared.error.TableErr.{TableErr}
use Rattle.section_tables.specs.declared.error.TableErr.TheVariants.{Refused, NoMemory}

-- the first step, and with its value the next one
infixl 10 ◌>>=◌
abbrev pub ◌>>=◌ : {A B : Type 0} → Option A → (A → Option B) → Option B
(Some x) >>= next = next x
None >>= next = None

-- a value where a rule is kept, else none
abbrev pub where_kept : {A : Type 0} → Bool → A → Option A
where_kept rule x = if rule then Some x else None

-- what is found for each entry, none where one of them has none
abbrev pub each : {A B : Type 0} → (A → Option B) → List A → Option (List B)
each find [] = Some []
each find (x ∷ xs) = find x >>= (λ y. each find xs >>= (λ ys. Some (y ∷ ys)))

-- what may be answered where this is due: its value, or that there is none; want of memory may be answered wherever it comes
abbrev pub MayAnswer : {A : Type 0} → Result A TableErr → Option A → Type 0
MayAnswer (Ok x) due = due ≡ Some x
MayAnswer (Err Refused) due = due ≡ None
MayAnswer (Err NoMemory) due = Unit {0}
