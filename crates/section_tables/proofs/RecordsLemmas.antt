-- The records of a text are those that are read from it one after another: a read between two records takes at least a byte, and
-- stops between records.
use Rattle.std.proofs.Common.{◌≡◌, ◌==◌, ℕ, zero, suc, ◌+◌, ◌-◌, ◌<◌, ◌≤◌, Bool, true, false, inl, inr, List, [], ◌∷◌, ◌++◌, length, Option, Some, None, refl, ap, ◌∙◌, arith}
use Rattle.std.specs.Prelude.{◌||◌, if◌then◌else◌}
use Rattle.std.proofs.lemmas.Bool.{cases_Bool}
use Rattle.std.proofs.lemmas.List.{append-nil}
use Rattle.csv.specs.Machine.{Read, next_record, step, in_field, start_field, start_record, after_end, is_end, ends_at_end, fields_after, field_after}
use Rattle.csv.specs.Reading.{default_config, Reached, records, records_from, records_next}
use Rattle.csv.specs.declared.parser.State.{State}
use Rattle.csv.specs.declared.parser.Action.{Action}
use Rattle.csv.specs.declared.parser.Action.TheVariants as act
use Rattle.csv.specs.declared.parser.Terminator.TheVariants as term
use Rattle.csv.specs.declared.parser.State.TheVariants as st

-- a state between two records
abbrev pub Between : State → Type 0
Between s = ends_at_end s ≡ false

after_between : (c : ℕ) → Between (after_end term.CRLF c)
after_between c = elim (cases_Bool (c == 13)) [
  | inl is ↦ rw is refl
  | inr not ↦ rw not refl
]

-- a step that ends a record leaves the reader between records
abbrev Ends : State × Action → Type 0
Ends to = is_end to.1 ≡ true → Between to.0

no_end : (s : State) (a : Action) → is_end a ≡ false → Ends (s, a)
no_end s a n e = cc

either : (test : Bool) (one other : State × Action) → Ends one → Ends other → Ends (if test then one else other)
either true one other f g = f
either false one other f g = g

in_field_ends : (c : ℕ) → Ends (in_field default_config c)
in_field_ends c =
    either (c == 44) (st.StartField, act.EndField) _ (no_end st.StartField act.EndField refl)
    (either ((c == 13) || (c == 10)) (after_end term.CRLF c, act.EndRecord) (st.InField, act.Copy) (λ e. after_between c) (no_end st.InField act.Copy refl))

start_field_ends : (c : ℕ) → Ends (start_field default_config c)
start_field_ends c = either (c == 34) (st.InQuoted, act.Skip) (in_field default_config c) (no_end st.InQuoted act.Skip refl) (in_field_ends c)

start_record_ends : (c : ℕ) → Ends (start_record default_config c)
start_record_ends c =
    either ((c == 13) || (c == 10)) (st.StartRecord, act.Skip) (start_field default_config c) (no_end st.StartRecord act.Skip refl) (start_field_ends c)

step_between : (s : State) (c : ℕ) → Ends (step default_config s c)
step_between st.StartRecord c = start_record_ends c
step_between st.StartField c = start_field_ends c
step_between st.InField c = in_field_ends c
step_between st.InQuoted c = either (c == 34) (st.AfterQuote, act.Skip) (st.InQuoted, act.Copy) (no_end st.AfterQuote act.Skip refl) (no_end st.InQuoted act.Copy refl)
step_between st.InEscape c = no_end st.InQuoted act.Copy refl
step_between st.AfterQuote c = either (c == 34) (st.InQuoted, act.Copy) (in_field default_config c) (no_end st.InQuoted act.Copy refl) (in_field_ends c)
step_between st.InComment c = either (c == 10) (st.StartRecord, act.Skip) (st.InComment, act.Skip) (no_end st.StartRecord act.Skip refl) (no_end st.InComment act.Skip refl)
step_between st.AfterCr c = either (c == 10) (st.StartRecord, act.Skip) (start_record default_config c) (no_end st.StartRecord act.Skip refl) (start_record_ends c)

some_is : (p q : Read) → Some p ≡ Some q → p ≡ q
some_is p q e = cc

-- what a read of a record leaves: a state between records, and no more bytes than there were
abbrev LeavesOf : List ℕ → Option Read → Type 0
LeavesOf xs None = Unit {0}
LeavesOf xs (Some p) = Between p.1 × (length p.2 ≤ length xs)

at_end : (ends : Bool) (fields : List (List ℕ)) → LeavesOf [] (if ends then Some (fields, st.StartRecord, []) else None)
at_end true fields = (refl, omega arith)
at_end false fields = tt

shorter : (c : ℕ) (xs : List ℕ) (o : Option Read) → LeavesOf xs o → LeavesOf (c ∷ xs) o
shorter c xs None h = tt
shorter c xs (Some p) h = (h.0, omega (arith, h.1))

at_step : (c : ℕ) (rest : List ℕ) (ends : Bool) (s : State) (fields : List (List ℕ)) (o : Option Read) → (ends ≡ true → Between s) → LeavesOf rest o
    → LeavesOf rest (if ends then Some (fields, s, rest) else o)
at_step c rest true s fields o b h = (b refl, omega arith)
at_step c rest false s fields o b h = h

-- a read within a record leaves no more bytes than there are behind the first
leaves_rest : (s : State) (fields : List (List ℕ)) (field : List ℕ) (xs : List ℕ) → LeavesOf xs (next_record default_config s fields field xs)
unfolding next_record
leaves_rest s fields field [] = at_end (ends_at_end s) (fields ++ (field ∷ []))
leaves_rest s fields field (c ∷ rest) =
    shorter c rest _ (at_step c rest (is_end (step default_config s c).1) (step default_config s c).0 (fields_after (step default_config s c).1 fields field)
    (next_record default_config (step default_config s c).0 (fields_after (step default_config s c).1 fields field) (field_after (step default_config s c).1 c field) rest)
    (step_between s c) (leaves_rest (step default_config s c).0 (fields_after (step default_config s c).1 fields field) (field_after (step default_config s c).1 c field) rest))

-- between two records a read takes at least a byte
abbrev TakesOf : List ℕ → Option Read → Type 0
TakesOf xs None = Unit {0}
TakesOf xs (Some p) = Between p.1 × (length p.2 < length xs)

taken : (c : ℕ) (rest : List ℕ) (o : Option Read) → LeavesOf rest o → TakesOf (c ∷ rest) o
taken c rest None h = tt
taken c rest (Some p) h = (h.0, omega (arith, h.1))

none_at_end : (ends : Bool) (fields : List (List ℕ)) → ends ≡ false → TakesOf [] (if ends then Some (fields, st.StartRecord, []) else None)
none_at_end true fields e = cc
none_at_end false fields e = tt

takes_byte : (s : State) (xs : List ℕ) → Between s → TakesOf xs (next_record default_config s [] [] xs)
unfolding next_record
takes_byte s [] b = none_at_end (ends_at_end s) ([] ++ ([] ∷ [])) b
takes_byte s (c ∷ rest) b =
    taken c rest _ (at_step c rest (is_end (step default_config s c).1) (step default_config s c).0 (fields_after (step default_config s c).1 [] [])
    (next_record default_config (step default_config s c).0 (fields_after (step default_config s c).1 [] []) (field_after (step default_config s c).1 c []) rest)
    (step_between s c) (leaves_rest (step default_config s c).0 (fields_after (step default_config s c).1 [] []) (field_after (step default_config s c).1 c []) rest))

took : (xs : List ℕ) (o : Option Read) (p : Read) → o ≡ Some p → TakesOf xs o → Between p.1 × (length p.2 < length xs)
took xs None p e h = cc
took xs (Some q) p e h = rw (← some_is q p e) h

-- records that were read one after another are no more than the bytes that they took
pub no_more_than : (rows : List (List (List ℕ))) (s : State) (xs : List ℕ) (s2 : State) (ys : List ℕ) → Between s → Reached default_config s xs rows s2 ys → length rows + length ys ≤ length xs
unfolding Reached
no_more_than [] s xs s2 ys b h = rw h.1 (omega arith)
no_more_than (r ∷ rows) s xs s2 ys b h =
    let t = took xs (next_record default_config s [] [] xs) h.0 h.1 (takes_byte s xs b) in
    let more = no_more_than rows h.0.1 h.0.2 s2 ys t.0 h.3 in
    omega (arith, t.1, more)

next_is : (n : ℕ) (o : Option Read) (p : Read) (r : List (List ℕ)) (more : List (List (List ℕ))) → o ≡ Some p → r ≡ p.0 → records_from default_config n p.1 p.2 ≡ more
    → records_next (records_from default_config n) o ≡ r ∷ more
next_is n None p r more e f m = cc
next_is n (Some q) p r more e f m = rw (some_is q p e, f, m) refl

-- so many records, of which these were read
read_first : (rows : List (List (List ℕ))) (n m : ℕ) (s : State) (xs : List ℕ) (s2 : State) (ys : List ℕ) → m ≡ length rows + n → Reached default_config s xs rows s2 ys
    → records_from default_config m s xs ≡ rows ++ records_from default_config n s2 ys
unfolding Reached records_from
read_first [] n m s xs s2 ys e h = let same : m ≡ n = omega (arith, e) in rw (same, h.0, h.1) refl
read_first (r ∷ rows) n zero s xs s2 ys e h = absurd (omega (arith, e))
read_first (r ∷ rows) n (suc m) s xs s2 ys e h =
    next_is m (next_record default_config s [] [] xs) h.0 r _ h.1 h.2 (read_first rows n m h.0.1 h.0.2 s2 ys (omega (arith, e)) h.3)

-- the records of a text begin with those that were read
pub begins_with : (text : List ℕ) (rows : List (List (List ℕ))) (s : State) (ys : List ℕ) → Reached default_config st.StartRecord text rows s ys
    → (rest : List (List (List ℕ))) × (records default_config text ≡ rows ++ rest)
begins_with text rows s ys h =
    let few = no_more_than rows st.StartRecord text s ys refl h in
    let n = length text + 1 - length rows in
    let count : length text + 1 ≡ length rows + n = omega (arith, few) in
    (records_from default_config n s ys, read_first rows n (length text + 1) st.StartRecord text s ys count h)

none_left : (n : ℕ) (s : State) (ys : List ℕ) → next_record default_config s [] [] ys ≡ None → records_from default_config n s ys ≡ []
unfolding records_from
none_left zero s ys e = refl
none_left (suc n) s ys e = rw e refl

-- where no further one was found they are all
pub are_all : (text : List ℕ) (rows : List (List (List ℕ))) (s : State) (ys : List ℕ) → Reached default_config st.StartRecord text rows s ys → next_record default_config s [] [] ys ≡ None
    → records default_config text ≡ rows
are_all text rows s ys h e =
    let few = no_more_than rows st.StartRecord text s ys refl h in
    let n = length text + 1 - length rows in
    let count : length text + 1 ≡ length rows + n = omega (arith, few) in
    read_first rows n (length text + 1) st.StartRecord text s ys count h ∙ ap (λ rest. rows ++ rest) (none_left n s ys e) ∙ append-nil rows
