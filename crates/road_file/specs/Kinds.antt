-- The kinds of values: whole numbers, texts, pairs and lists. A value of another kind, or none at all, is F5.
use Rattle.std.specs.Prelude.{ℕ, ℤ, List, [], ◌∷◌, Option, Some, None, Result, Ok, Err}
use Rattle.toml.specs.Data.{Data, string, integer, array, table, Items, no_items, item, Members, get_member}
use Rattle.road_types.specs.declared.fault.Fault.{Fault}
use Rattle.road_types.specs.declared.fault.Fault.TheVariants.{F5}
use Rattle.road_file.specs.Step.{◌>>=◌}

abbrev pub whole_of : Data → Result ℤ Fault
whole_of (integer z) = Ok z
whole_of _ = Err F5

abbrev pub text_of : Data → Result (List ℕ) Fault
text_of (string s) = Ok s
text_of _ = Err F5

abbrev pub items_of : Data → Result Items Fault
items_of (array items) = Ok items
items_of _ = Err F5

abbrev pub table_of : Data → Result Members Fault
table_of (table members) = Ok members
table_of _ = Err F5

abbrev pub both_of : Data → Data → Result (ℤ × ℤ) Fault
both_of a b = do
  first ← whole_of a
  second ← whole_of b
  Ok (first, second)

-- an array of exactly two whole numbers
abbrev pub two_of : Items → Result (ℤ × ℤ) Fault
two_of (item a (item b no_items)) = both_of a b
two_of _ = Err F5

unfoldable pub pair_of : Data → Result (ℤ × ℤ) Fault
pair_of d = do
  items ← items_of d
  two_of items

-- the items of an array, each read
unfoldable pub each_of : {A : Type 0} → (Data → Result A Fault) → Items → Result (List A) Fault
each_of reads no_items = Ok []
each_of reads (item d items) = do
  x ← reads d
  xs ← each_of reads items
  Ok (x ∷ xs)

unfoldable pub list_of : {A : Type 0} → (Data → Result A Fault) → Data → Result (List A) Fault
list_of reads d = do
  items ← items_of d
  each_of reads items

-- what is read of the value at a key
abbrev pub of_found : {A : Type 0} → (Data → Result A Fault) → Option Data → Result A Fault
of_found reads (Some d) = reads d
of_found reads None = Err F5

unfoldable pub whole_at : List ℕ → Members → Result ℤ Fault
whole_at key members = of_found whole_of (get_member key members)

unfoldable pub text_at : List ℕ → Members → Result (List ℕ) Fault
text_at key members = of_found text_of (get_member key members)

unfoldable pub pair_at : List ℕ → Members → Result (ℤ × ℤ) Fault
pair_at key members = of_found pair_of (get_member key members)

unfoldable pub list_at : {A : Type 0} → (Data → Result A Fault) → List ℕ → Members → Result (List A) Fault
list_at reads key members = of_found (list_of reads) (get_member key members)

-- at a key that may be missing, with what stands for it then
abbrev pub if_found : {A : Type 0} → A → (Data → Result A Fault) → Option Data → Result A Fault
if_found other reads (Some d) = reads d
if_found other reads None = Ok other

unfoldable pub whole_or : ℤ → List ℕ → Members → Result ℤ Fault
whole_or other key members = if_found other whole_of (get_member key members)

abbrev pub some_text_of : Data → Result (Option (List ℕ)) Fault
some_text_of d = do
  s ← text_of d
  Ok (Some s)

unfoldable pub text_or_none : List ℕ → Members → Result (Option (List ℕ)) Fault
text_or_none key members = if_found None some_text_of (get_member key members)

unfoldable pub list_or_empty : {A : Type 0} → (Data → Result A Fault) → List ℕ → Members → Result (List A) Fault
list_or_empty reads key members = if_found [] (list_of reads) (get_member key members)
