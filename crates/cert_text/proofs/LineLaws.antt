-- A form of lines that tells its values by their words spells them line by line.
use Rattle.std.proofs.Common.{◌≡◌, ℕ, ◌+◌, Bool, true, Option, Some, None, Ok, List, [], ◌∷◌, ◌++◌, length, refl, sym, ap, ap₂, subst, cond, ◌∙◌, append_assoc, ◌==◌, false}
use Rattle.std.specs.List.{join_with_byte}
use Rattle.std.proofs.lemmas.List.{append-nil}
use Rattle.std.proofs.lemmas.List.Splits.{slice_split_at}
use Rattle.text_parts.specs.Words.{words_of}
use Rattle.text_parts.specs.Lines.{TextLine, Reading, lines_of, bytes_of}
use Rattle.text_parts.proofs.LinesLemmas.{lines_ended}
use Rattle.plan_text.specs.inside.LineReading.{Read, then_read, ◌>>=◌, give, taken, behind}
use Rattle.plan_text.specs.Taken.{Took}
use Rattle.plan_text.proofs.SpellsLemmas.{Spells, took_none, took_then, then_ok, ok_parts, given_is}
use Rattle.cert_text.specs.NodeText.{spelled_words}
use Rattle.cert_text.specs.WordForms.{WordForm, line_value}
use Rattle.cert_text.specs.inside.NodeReading.{next_of, line_due, no_form}
use Rattle.cert_text.proofs.WordLaws.{guard_some, AreWords, words_on_line, line_lacks, line_of_words}

pub record Tells {A : Type 0} (form : WordForm A) (words : A → List (List ℕ)) (Fit : A → Type 0) : Type 0 where
  pub sound : (found : List (List ℕ)) (a : A) → form found ≡ Some a → (found ≡ words a) × Fit a
  pub complete : (a : A) → Fit a → form (words a) ≡ Some a
  pub are_words : (a : A) → Fit a → AreWords (words a)

taken_is : {A : Type 0} (o : Option A) (lines after : Reading) (a : A) → taken o lines ≡ Ok (a, after) → (o ≡ Some a) × (lines ≡ after)
taken_is None lines after a e = cc
taken_is (Some b) lines after a e = let parts = ok_parts b a lines after e in (ap (λ x. Some x) parts.0, parts.1)

-- a line of the form
record IsLineOf {A : Type 0} (form : WordForm A) (line : TextLine) (a : A) : Type 0 where
  ended : line.ended ≡ true
  told : form (words_of line.bytes) ≡ Some a

line_is : {A : Type 0} (form : WordForm A) (line : TextLine) (a : A) → line_value form line ≡ Some a → IsLineOf form line a
unfolding line_value
line_is form line a e = let parts = guard_some line.ended (form (words_of line.bytes)) a e in record { ended = parts.0; told = parts.1 }

is_line : {A : Type 0} (form : WordForm A) (at : ℕ) (words : List (List ℕ)) (a : A) → AreWords words → form words ≡ Some a → line_value form (record { start = at; bytes = join_with_byte 32 words; ended = true }) ≡ Some a
unfolding line_value
is_line form at words a h e = ap form (words_on_line words h) ∙ e

line_took : (before after : Reading) (others : List TextLine) (line : TextLine) (words : List (List ℕ)) → before.left ≡ line ∷ others → behind before others ≡ after → line.ended ≡ true → line.bytes ≡ join_with_byte 32 words → Took before after (spelled_words words)
line_took before after others line words e h ended spelled =
    subst (λ r. Took before r (spelled_words words)) h
    (record {
      lines = line ∷ [];
      text_is = append-nil (bytes_of line) ∙ ap₂ (λ bytes (ended : Bool). bytes ++ cond ended (10 ∷ []) []) spelled ended;
      left_is = e;
      number_is = refl;
      source_is = refl;
    })

line_sound : {A : Type 0} (form : WordForm A) (words : A → List (List ℕ)) (Fit : A → Type 0) → Tells form words Fit → (before after : Reading) (left : List TextLine) (a : A) → before.left ≡ left → next_of form left before ≡ Ok (a, after) → Took before after (spelled_words (words a)) × Fit a
line_sound form words Fit t before after [] a i e = cc
line_sound form words Fit t before after (line ∷ others) a i e =
    let read = taken_is (line_value form line) (behind before others) after a e in
    let is = line_is form line a read.0 in
    let told = t.sound (words_of line.bytes) a is.told in
    (line_took before after others line (words a) i read.1 is.ended (line_of_words line.bytes (words a) told.0), told.1)

-- the lines of a text that begins with a spelled line
first_line : (at : ℕ) (words : List (List ℕ)) (rest : List ℕ) → AreWords words → lines_of at (spelled_words words ++ rest) ≡ record { start = at; bytes = join_with_byte 32 words; ended = true } ∷ lines_of (at + length (join_with_byte 32 words) + 1) rest
first_line at words rest h =
    let row = join_with_byte 32 words in
    ap (lines_of at) (append_assoc row (10 ∷ []) rest)
    ∙ lines_ended at (row ++ (10 ∷ rest)) row rest (slice_split_at (λ b. b == 10) row 10 rest (line_lacks words h) refl)

pub form_spells : {A : Type 0} (form : WordForm A) (words : A → List (List ℕ)) (Fit : A → Type 0) → Tells form words Fit → Spells (line_due form) (λ a. spelled_words (words a)) Fit
unfolding line_due
form_spells form words Fit t =
    record {
      sound = λ before after a e. line_sound form words Fit t before after before.left a refl e;
      complete = λ before at a rest h e.
          let row = join_with_byte 32 (words a) in
          let others = lines_of (at + length row + 1) rest in (
            behind before others,
            at + length row + 1,
            ap (λ left. next_of form left before) (e ∙ first_line at (words a) rest (t.are_words a h)) ∙ ap (λ o. taken o (behind before others)) (is_line form at (words a) a (t.are_words a h) (t.complete a h)),
            refl,
          );
    }

none_next : {A : Type 0} (left : List TextLine) (before after : Reading) (a : A) → next_of no_form left before ≡ Ok (a, after) → ⊥
unfolding line_value
none_next [] before after a e = cc
none_next (line ∷ others) before after a e = none_line line.ended (behind before others) after a e
  where
    none_line : {A : Type 0} (ended : Bool) (lines after : Reading) (a : A) → taken (cond ended None None) lines ≡ Ok (a, after) → ⊥
    none_line true lines after a e = cc
    none_line false lines after a e = cc

-- no value is read where no line is of the form
pub nothing_read : {A : Type 0} (before after : Reading) (a : A) → line_due no_form before ≡ Ok (a, after) → ⊥
unfolding line_due
nothing_read before after a e = none_next before.left before after a e

-- a reader, and one behind it that depends on what was read: the whole is made of both, and gives both back
pub bind_spells : {A B C : Type 0} (read : Read A) (text : A → List ℕ) (Fit : A → Type 0) (next : A → Read B) (text_behind : A → B → List ℕ) (Fit_behind : A → B → Type 0) (f : A → B → C) (whole : C → List ℕ) (Fit_whole : C → Type 0)
    → Spells read text Fit
    → ((a : A) → Fit a → Spells (next a) (text_behind a) (Fit_behind a))
    → ((a : A) (b : B) → Fit a → Fit_behind a b → (text a ++ text_behind a b ≡ whole (f a b)) × Fit_whole (f a b))
    → ((c : C) → Fit_whole c → (a : A) × (b : B) × (f a b ≡ c) × Fit a × Fit_behind a b)
    → Spells (read >>= (λ a. (next a >>= (λ b. give (f a b))))) whole Fit_whole
bind_spells {A} {B} {C} read text Fit next text_behind Fit_behind f whole Fit_whole s t there back =
    record {
      sound = λ before after c e.
          let behind_a : A → Read C = λ a. (next a >>= (λ b. give (f a b))) in
          let first = then_ok (read before) behind_a c after e in
          let behind_b : B → Read C = λ b. give (f first.0 b) in
          let second = then_ok (next first.0 first.1) behind_b c after first.3 in
          let given = given_is (f first.0 second.0) c second.1 after second.3 in
          let one = s.sound before first.1 first.0 first.2 in
          let two = (t first.0 one.1).sound first.1 second.1 second.0 second.2 in
          let made = there first.0 second.0 one.1 two.1 in
          let P : C → Reading → Type 0 = λ c r. Took before r (whole c) × Fit_whole c in
          subst (λ r. P c r) given.1
          (subst (λ c. P c second.1) given.0
          (subst (λ t. Took before second.1 t) made.0 (took_then before first.1 second.1 (text first.0) (text_behind first.0 second.0) one.0 two.0), made.1));
      complete = λ before at c rest h e.
          let parts = back c h in
          let a = parts.0 in
          let b = parts.1 in
          let same : whole c ≡ text a ++ text_behind a b = ap whole (sym parts.2) ∙ sym (there a b parts.3 parts.4).0 in
          let behind_a : A → Read C = λ a. (next a >>= (λ b. give (f a b))) in
          let behind_b : B → Read C = λ b. give (f a b) in
          let first = s.complete before at a (text_behind a b ++ rest) parts.3 (e ∙ ap (λ t. lines_of at (t ++ rest)) same ∙ ap (lines_of at) (append_assoc (text a) (text_behind a b) rest)) in
          let second = (t a parts.3).complete first.0 first.1 b rest parts.4 first.3 in
          (second.0, second.1, ap (λ o. then_read o behind_a) first.2 ∙ ap (λ o. then_read o behind_b) second.2 ∙ ap (λ c. Ok (c, second.0)) parts.2, second.3);
    }

-- a reader, and one behind it that gives the whole
pub seq_spells : {A C : Type 0} (read : Read A) (text : A → List ℕ) (Fit : A → Type 0) (next : A → Read C) (text_behind : C → List ℕ) (Fit_behind : A → C → Type 0) (whole : C → List ℕ) (Fit_whole : C → Type 0)
    → Spells read text Fit
    → ((a : A) → Fit a → Spells (next a) text_behind (Fit_behind a))
    → ((a : A) (c : C) → Fit a → Fit_behind a c → (text a ++ text_behind c ≡ whole c) × Fit_whole c)
    → ((c : C) → Fit_whole c → (a : A) × Fit a × Fit_behind a c)
    → Spells (read >>= next) whole Fit_whole
seq_spells {A} {C} read text Fit next text_behind Fit_behind whole Fit_whole s t there back =
    record {
      sound = λ before after c e.
          let first = then_ok (read before) next c after e in
          let one = s.sound before first.1 first.0 first.2 in
          let two = (t first.0 one.1).sound first.1 after c first.3 in
          let made = there first.0 c one.1 two.1 in
          (subst (λ t. Took before after t) made.0 (took_then before first.1 after (text first.0) (text_behind c) one.0 two.0), made.1);
      complete = λ before at c rest h e.
          let parts = back c h in
          let a = parts.0 in
          let same : whole c ≡ text a ++ text_behind c = sym (there a c parts.1 parts.2).0 in
          let first = s.complete before at a (text_behind c ++ rest) parts.1 (e ∙ ap (λ t. lines_of at (t ++ rest)) same ∙ ap (lines_of at) (append_assoc (text a) (text_behind c) rest)) in
          let second = (t a parts.1).complete first.0 first.1 c rest parts.2 first.3 in
          (second.0, second.1, ap (λ o. then_read o next) first.2 ∙ second.2, second.3);
    }

-- a value without lines
pub given_spells : {A : Type 0} (a : A) (text : A → List ℕ) (Fit : A → Type 0) → text a ≡ [] → Fit a → ((b : A) → Fit b → a ≡ b) → Spells (give a) text Fit
given_spells {A} a text Fit none fit one =
    record {
      sound = λ before after b e.
          let given = given_is a b before after e in
          let P : A → Reading → Type 0 = λ b r. Took before r (text b) × Fit b in
          subst (λ r. P b r) given.1 (subst (λ b. P b before) given.0 (subst (λ t. Took before before t) (sym none) (took_none before), fit));
      complete = λ before at b rest h e.
          let same = one b h in
          (before, at, ap (λ b. Ok (b, before)) same, e ∙ ap (λ t. lines_of at (t ++ rest)) (ap text (sym same) ∙ none));
    }
