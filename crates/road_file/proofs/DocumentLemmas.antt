-- The text of a file.
use Rattle.std.proofs.Common.{◌≡◌, ◌<◌, ◌≤◌, ℕ, List, length, Bool, true, false, Ok, Err, refl}
use Rattle.std.proofs.lemmas.Bool.{le-leb, lt-leb}
use Rattle.std.proofs.lemmas.Str.{IsUtf8-from_is_utf8, is_utf8-from_IsUtf8}
use Rattle.std.specs.Str.{IsUtf8, is_utf8}
use Rattle.road_types.specs.declared.fault.Fault.TheVariants.{F1, F2}
use Rattle.road_types.specs.Limits.{longest_file}
use Rattle.road_file.specs.RoadOf.{text_in}

pub too_long : (bytes : List ℕ) → longest_file < length bytes → text_in bytes ≡ Err F1
unfolding text_in
too_long bytes long = rw (lt-leb (length bytes) longest_file long)

pub is_text : (bytes : List ℕ) → length bytes ≤ longest_file → IsUtf8 bytes → text_in bytes ≡ Ok bytes
unfolding text_in
is_text bytes short utf8 = rw (le-leb (length bytes) longest_file short, is_utf8-from_IsUtf8 bytes utf8)

no_utf8 : (bytes : List ℕ) (b : Bool) → is_utf8 bytes ≡ b → ¬ IsUtf8 bytes → b ≡ false
no_utf8 bytes true e not = absurd (not (IsUtf8-from_is_utf8 bytes e))
no_utf8 bytes false e not = refl

pub no_text : (bytes : List ℕ) → length bytes ≤ longest_file → ¬ IsUtf8 bytes → text_in bytes ≡ Err F2
unfolding text_in
no_text bytes short not = rw (le-leb (length bytes) longest_file short, no_utf8 bytes (is_utf8 bytes) refl not)

pub ruleset texts = (too_long, is_text, no_text)
