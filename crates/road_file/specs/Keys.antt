-- The keys of a road file. Each table has all that it must have, else F3, and no other than it may have, else F4.
-- The tables are the root, and the tables among the elements of the six lists.
use Rattle.std.specs.Prelude.{ℕ, codes, Bool, true, not, ◌&&◌, ◌||◌, List, [], ◌∷◌, Option, Some, None, is_some, option_and_then}
use Rattle.std.specs.List.{list_all, list_any}
use Rattle.std.specs.Str.{bytes_eq}
use Rattle.toml.specs.Data.{table, as_array, Items, no_items, item, Members, no_members, member, get_member}
use Rattle.road_file.specs.declared.keys.EntryKind.{EntryKind}
use Rattle.road_file.specs.declared.keys.EntryKind.TheVariants.{Section, Hop, Fixed, Pit, Road, Block}
use Rattle.road_file.specs.declared.keys.KeyRule.{KeyRule}
use Rattle.road_file.specs.declared.keys.KeyRule.TheVariants.{Complete, Known}

unfoldable pub root_required : List (List ℕ)
root_required =
    codes "version" ∷ codes "step" ∷ codes "stages" ∷ codes "knots" ∷ codes "low" ∷ codes "high" ∷ codes "grade" ∷ codes "curve" ∷ []

unfoldable pub root_known : List (List ℕ)
root_known =
    codes "version" ∷ codes "step" ∷ codes "stages" ∷ codes "knots" ∷ codes "low" ∷ codes "high" ∷ codes "grade" ∷ codes "curve"
    ∷ codes "nodes" ∷ codes "pivots" ∷ codes "table" ∷ codes "section" ∷ codes "hop" ∷ codes "fixed" ∷ codes "pit"
    ∷ codes "road" ∷ codes "block" ∷ []

-- the key of a list, by what its entries are
unfoldable pub list_key : EntryKind → List ℕ
list_key Section = codes "section"
list_key Hop = codes "hop"
list_key Fixed = codes "fixed"
list_key Pit = codes "pit"
list_key Road = codes "road"
list_key Block = codes "block"

-- the keys of an entry, all of which it has, and no other
unfoldable pub entry_keys : EntryKind → List (List ℕ)
entry_keys Section =
    codes "station" ∷ codes "ground" ∷ codes "cut" ∷ codes "fill" ∷ codes "cut_cost" ∷ codes "fill_cost" ∷ codes "cut_max"
    ∷ codes "fill_max" ∷ []
entry_keys Hop = codes "right_cost" ∷ codes "right_max" ∷ codes "left_cost" ∷ codes "left_max" ∷ []
entry_keys Fixed = codes "station" ∷ codes "low" ∷ codes "high" ∷ []
entry_keys Pit = codes "name" ∷ codes "kind" ∷ codes "capacity" ∷ codes "cost" ∷ []
entry_keys Road = codes "pit" ∷ codes "section" ∷ codes "cost" ∷ codes "max" ∷ []
entry_keys Block = codes "section" ∷ codes "cost" ∷ []

unfoldable pub has_key : Members → List ℕ → Bool
has_key members key = is_some (get_member key members)

-- every one of the keys stands in the table
unfoldable pub has_keys : List (List ℕ) → Members → Bool
has_keys keys members = list_all (has_key members) keys

-- every key of the table is one of these
unfoldable pub knows_keys : List (List ℕ) → Members → Bool
knows_keys keys no_members = true
knows_keys keys (member key d members) = list_any (bytes_eq key) keys && knows_keys keys members

-- of the two rules, this one is kept by a table whose keys are to be these
unfoldable pub keeps_keys : KeyRule → List (List ℕ) → Members → Bool
keeps_keys Complete keys members = has_keys keys members
keeps_keys Known keys members = knows_keys keys members

-- it is kept by each table among the elements
unfoldable pub each_keeps : KeyRule → List (List ℕ) → Items → Bool
each_keeps rule keys no_items = true
each_keeps rule keys (item (table members) items) = keeps_keys rule keys members && each_keeps rule keys items
each_keeps rule keys (item _ items) = each_keeps rule keys items

-- the elements of a list; a value that is no list has none
abbrev pub elements_at : List ℕ → Members → Option Items
elements_at key root = option_and_then as_array (get_member key root)

abbrev pub elements_keep : KeyRule → List (List ℕ) → Option Items → Bool
elements_keep rule keys None = true
elements_keep rule keys (Some items) = each_keeps rule keys items

unfoldable pub list_keeps : KeyRule → EntryKind → Members → Bool
list_keeps rule kind root = elements_keep rule (entry_keys kind) (elements_at (list_key kind) root)

-- it is kept by the tables of all six lists
unfoldable pub lists_keep : KeyRule → Members → Bool
lists_keep rule root =
    list_keeps rule Section root && list_keeps rule Hop root && list_keeps rule Fixed root && list_keeps rule Pit root
    && list_keeps rule Road root && list_keeps rule Block root

-- no required key is missing, and sections stand in the file or in a table that it names
unfoldable pub is_complete : Members → Bool
is_complete root =
    keeps_keys Complete root_required root && lists_keep Complete root
    && (has_key root (codes "table") || has_key root (codes "section"))

-- no unknown key stands, and sections don't stand in both places
unfoldable pub is_known : Members → Bool
is_known root =
    keeps_keys Known root_known root && lists_keep Known root
    && not (has_key root (codes "table") && has_key root (codes "section"))
