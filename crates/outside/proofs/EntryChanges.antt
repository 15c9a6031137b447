-- What a change of the first entry with a name does to the files and the rooms.
use Rattle.std.proofs.Common.{◌≡◌, ℕ, Bool, true, false, List, get_or, set, Option, Some, Result, Ok, Err, OnOk, OnErr, sym, ◌∙◌, ap}
use Rattle.std.specs.Bool.{OnTrue, OnFalse}
use Rattle.std.specs.FinMap.{get, insert}
use Rattle.std.proofs.lemmas.List.{get_or_default, set-get_or}
use Rattle.outside.specs.inside.Entry.{NamedFile, unused, files_of, rooms_of, IsFirstEntry}
use Rattle.outside.specs.MemStore.{room_with}
use Rattle.outside.proofs.EntryLemmas.{map_of-set, map_of-set_same, get-map_of_first}

-- with a file, and the rest as it was
abbrev pub with_bytes : NamedFile → List ℕ → NamedFile
with_bytes old bytes = record { name = old.name; file = Some bytes; room = old.room }

abbrev pub with_room : NamedFile → ℕ → NamedFile
with_room old room = record { name = old.name; file = old.file; room = Some room }

module _ (n : List ℕ) (es : List NamedFile) (i : ℕ) (old : NamedFile) (first : IsFirstEntry n es i) (at : old ≡ get_or es i old) where
  entry : get_or es i (unused n) ≡ old
  entry = get_or_default es i (unused n) old first.within ∙ sym at

  named : old.name ≡ n
  named = sym (ap (λ (e : NamedFile). e.name) entry) ∙ first.named

  pub file_at : get (files_of es) n ≡ old.file
  file_at = get-map_of_first (λ e. e.file) n es i first ∙ ap (λ (e : NamedFile). e.file) entry

  pub room_at : get (rooms_of es) n ≡ old.room
  room_at = get-map_of_first (λ e. e.room) n es i first ∙ ap (λ (e : NamedFile). e.room) entry

  pub files-file : (bytes : List ℕ) (new : NamedFile) → new ≡ with_bytes old bytes → files_of (set es i new) ≡ insert (files_of es) n bytes
  files-file bytes new is =
      ap (λ e. files_of (set es i e)) is ∙ map_of-set (λ e. e.file) n es i (with_bytes old bytes) first named

  pub rooms-file : (bytes : List ℕ) (new : NamedFile) → new ≡ with_bytes old bytes → rooms_of (set es i new) ≡ rooms_of es
  rooms-file bytes new is =
      ap (λ e. rooms_of (set es i e)) is ∙ map_of-set_same (λ e. e.room) n es i (with_bytes old bytes) first named (sym (ap (λ (e : NamedFile). e.room) entry))

  pub rooms-room : (bytes : ℕ) (new : NamedFile) → new ≡ with_room old (room_with old.room bytes) → rooms_of (set es i new) ≡ insert (rooms_of es) n (room_with (get (rooms_of es) n) bytes)
  rooms-room bytes new is =
      ap (λ e. rooms_of (set es i e)) is
      ∙ map_of-set (λ e. e.room) n es i (with_room old (room_with old.room bytes)) first named
      ∙ ap (λ (r : Option ℕ). insert (rooms_of es) n (room_with r bytes)) (sym room_at)

  pub files-room : (room : ℕ) (new : NamedFile) → new ≡ with_room old room → files_of (set es i new) ≡ files_of es
  files-room room new is =
      ap (λ e. files_of (set es i e)) is ∙ map_of-set_same (λ e. e.file) n es i (with_room old room) first named (sym (ap (λ (e : NamedFile). e.file) entry))

  pub unchanged : {V : Type 0} (maps : List NamedFile → V) (new : NamedFile) → new ≡ old → maps (set es i new) ≡ maps es
  unchanged maps new is = ap (λ e. maps (set es i e)) (is ∙ at) ∙ ap maps (set-get_or es i old)

  pub after_file : {E : Type 0} (r : Result (Unit {0}) E) (bytes : List ℕ) (new : NamedFile) → OnOk r (new ≡ with_bytes old bytes) → OnErr r (new ≡ old) → rooms_of (set es i new) ≡ rooms_of es
  after_file (Ok x) bytes new ok err = rooms-file bytes new ok
  after_file (Err e) bytes new ok err = unchanged rooms_of new err

  pub after_room : {E : Type 0} (r : Result (Unit {0}) E) (room : ℕ) (new : NamedFile) → OnOk r (new ≡ with_room old room) → OnErr r (new ≡ old) → files_of (set es i new) ≡ files_of es
  after_room (Ok x) room new ok err = files-room room new ok
  after_room (Err e) room new ok err = unchanged files_of new err

  pub after_refill : (b : Bool) (bytes : List ℕ) (new : NamedFile) → OnTrue b (new ≡ with_bytes old bytes) → OnFalse b (new ≡ old) → rooms_of (set es i new) ≡ rooms_of es
  after_refill true bytes new ok err = rooms-file bytes new ok
  after_refill false bytes new ok err = unchanged rooms_of new err
