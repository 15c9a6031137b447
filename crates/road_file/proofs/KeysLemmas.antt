-- The keys of tables, and of the tables among the elements of a list.
use Rattle.std.proofs.Common.{◌≡◌, ℕ, ◌+◌, ◌<◌, ◌≤◌, Bool, true, false, ◌&&◌, ◌||◌, Bor, map, List, [], ◌∷◌, length, get_or, drop, Some, None, String, Global, string_bytes, refl, ap, sym, ◌∙◌}
use Rattle.std.proofs.lemmas.List.{at_drop_all}
use Rattle.std.specs.List.{list_all, list_any}
use Rattle.std.specs.Str.{bytes_eq}
use Rattle.std.specs.Map.{keys_of}
use Rattle.toml.specs.Data.{Data, string, integer, float, boolean, datetime, array, table, as_table, Items, item, Members}
use Rattle.toml.specs.View.{view, items_view, members_view}
use Rattle.toml.specs.declared.value.Value.{Value}
use Rattle.toml.proofs.Views.{items_view-drop}
use Rattle.road_file.specs.declared.keys.KeyRule.{KeyRule}
use Rattle.road_file.specs.Keys.{knows_keys, keeps_keys, each_keeps}

-- a key of the map is known
abbrev pub is_known_key : List (List ℕ) → String Global → Bool
is_known_key keys key = list_any (bytes_eq (string_bytes key)) keys

pub knows_keys-view : (keys : List (List ℕ)) (es : List (String Global × Value)) → list_all (is_known_key keys) (keys_of es) ≡ knows_keys keys (members_view es)
unfolding knows_keys
knows_keys-view keys [] = refl
knows_keys-view keys (e ∷ es) = ap (λ b. is_known_key keys e.0 && b) (knows_keys-view keys es)

at_table : (rule : KeyRule) (keys : List (List ℕ)) (d : Data) (members : Members) (rest : Items) → as_table d ≡ Some members
    → each_keeps rule keys (item d rest) ≡ (keeps_keys rule keys members && each_keeps rule keys rest)
unfolding each_keeps
at_table rule keys (string s) ms rest e = cc
at_table rule keys (integer z) ms rest e = cc
at_table rule keys (float x) ms rest e = cc
at_table rule keys (boolean b) ms rest e = cc
at_table rule keys (datetime dt) ms rest e = cc
at_table rule keys (array ds) ms rest e = cc
at_table rule keys (table own) ms rest e = let same : own ≡ ms = cc in rw same

at_other : (rule : KeyRule) (keys : List (List ℕ)) (d : Data) (rest : Items) → as_table d ≡ None → each_keeps rule keys (item d rest) ≡ each_keeps rule keys rest
unfolding each_keeps
at_other rule keys (string s) rest e = refl
at_other rule keys (integer z) rest e = refl
at_other rule keys (float x) rest e = refl
at_other rule keys (boolean b) rest e = refl
at_other rule keys (datetime dt) rest e = refl
at_other rule keys (array ds) rest e = refl
at_other rule keys (table ms) rest e = cc

-- the loop over the elements: at a table that keeps the rule
pub each_keeps-more : (rule : KeyRule) (keys : List (List ℕ)) (vs : List Value) (i : ℕ) (v : Value) (ms : Members) (due : Bool) → i < length vs → v ≡ get_or vs i v → Some ms ≡ as_table (view v) → keeps_keys rule keys ms ≡ true
    → each_keeps rule keys (items_view (drop i vs)) ≡ due → each_keeps rule keys (items_view (drop (i + 1) vs)) ≡ due
each_keeps-more rule keys vs i v ms due within at e kept so_far =
    let here : as_table (view (get_or vs i v)) ≡ Some ms = rw (← at) (sym e) in
    let rest = each_keeps rule keys (items_view (drop (i + 1) vs)) in
    let whole : each_keeps rule keys (items_view (drop i vs)) ≡ (keeps_keys rule keys ms && rest) = ap (each_keeps rule keys) (items_view-drop vs i v within) ∙ at_table rule keys (view (get_or vs i v)) ms _ here in
    sym (ap (λ b. b && rest) kept) ∙ sym whole ∙ so_far

-- at one that doesn't
pub each_keeps-stop : (rule : KeyRule) (keys : List (List ℕ)) (vs : List Value) (i : ℕ) (v : Value) (ms : Members) (due : Bool) → i < length vs → v ≡ get_or vs i v → Some ms ≡ as_table (view v) → keeps_keys rule keys ms ≡ false
    → each_keeps rule keys (items_view (drop i vs)) ≡ due → false ≡ due
each_keeps-stop rule keys vs i v ms due within at e broken so_far =
    let here : as_table (view (get_or vs i v)) ≡ Some ms = rw (← at) (sym e) in
    let rest = each_keeps rule keys (items_view (drop (i + 1) vs)) in
    let whole : each_keeps rule keys (items_view (drop i vs)) ≡ (keeps_keys rule keys ms && rest) = ap (each_keeps rule keys) (items_view-drop vs i v within) ∙ at_table rule keys (view (get_or vs i v)) ms _ here in
    sym (ap (λ b. b && rest) broken) ∙ sym whole ∙ so_far

-- at another value
pub each_keeps-skip : (rule : KeyRule) (keys : List (List ℕ)) (vs : List Value) (i : ℕ) (v : Value) (due : Bool) → i < length vs → v ≡ get_or vs i v → None ≡ as_table (view v)
    → each_keeps rule keys (items_view (drop i vs)) ≡ due → each_keeps rule keys (items_view (drop (i + 1) vs)) ≡ due
each_keeps-skip rule keys vs i v due within at e so_far =
    let here : as_table (view (get_or vs i v)) ≡ None = rw (← at) (sym e) in
    sym (at_other rule keys (view (get_or vs i v)) _ here) ∙ sym (ap (each_keeps rule keys) (items_view-drop vs i v within)) ∙ so_far

-- and at the end
pub each_keeps-end : (rule : KeyRule) (keys : List (List ℕ)) (vs : List Value) (i : ℕ) (due : Bool) → length vs ≤ i
    → each_keeps rule keys (items_view (drop i vs)) ≡ due → true ≡ due
unfolding each_keeps
each_keeps-end rule keys vs i due past so_far = sym (at_drop_all (λ rest. each_keeps rule keys (items_view rest)) vs i past) ∙ so_far

-- a test of the texts behind references
pub any_at : (test : List ℕ → Bool) (keys : List (Bor (List ℕ))) → list_any (λ k. test k.now) keys ≡ list_any test (map (λ k. k.now) keys)
any_at test [] = refl
any_at test (k ∷ keys) = ap (λ b. test k.now || b) (any_at test keys)

pub all_at : (test : List ℕ → Bool) (keys : List (Bor (List ℕ))) → list_all (λ k. test k.now) keys ≡ list_all test (map (λ k. k.now) keys)
all_at test [] = refl
all_at test (k ∷ keys) = ap (λ b. test k.now && b) (all_at test keys)
