-- A reader spells a value by a text: what is read is spelled so, and what is spelled so is read, whatever follows.
use Rattle.std.proofs.Common.{◌≡◌, ℕ, ℤ, ◌+◌, zero, suc, Bool, true, Option, Some, None, Result, Ok, Err, List, [], ◌∷◌, ◌++◌, length, All, refl, sym, ap, ap₂, subst, cond, ◌==◌, ◌∙◌, arith, append_assoc, length-append}
use Rattle.std.specs.List.{flat_map}
use Rattle.std.proofs.lemmas.List.{append-nil}
use Rattle.std.proofs.lemmas.List.Elements.{All-nil, All-cons, All-head, All-tail}
use Rattle.std.proofs.lemmas.List.Splits.{slice_split_at}
use Rattle.text_parts.specs.Decimal.{IsShort}
use Rattle.text_parts.specs.Lines.{TextLine, Reading, lines_of, bytes_of, text_of}
use Rattle.text_parts.proofs.LinesLemmas.{lines_ended}
use Rattle.plan_text.specs.LineForms.{LineForm, AreOfForm, spelled_row, spelled_line, line_numbers}
use Rattle.plan_text.specs.inside.LineReading.{Read, then_read, ◌>>=◌, give, taken, behind, next_numbers, numbers_due, repeat_due}
use Rattle.plan_text.specs.Taken.{Took}
use Rattle.plan_text.proofs.WordLemmas.{IsWord, spelled_row-lacks}
use Rattle.plan_text.proofs.FormLaws.{IsLineOf, line_is, is_line}

pub record Spells {A : Type 0} (read : Read A) (text : A → List ℕ) (Fit : A → Type 0) : Type 0 where
  pub sound : (before after : Reading) (a : A) → read before ≡ Ok (a, after) → Took before after (text a) × Fit a
  pub complete : (before : Reading) (at : ℕ) (a : A) (rest : List ℕ) → Fit a → before.left ≡ lines_of at (text a ++ rest) → (after : Reading) × (place : ℕ) × (read before ≡ Ok (a, after)) × (after.left ≡ lines_of place rest)

-- nothing is taken, and one thing after another
pub took_none : (lines : Reading) → Took lines lines []
took_none lines = record { lines = []; text_is = refl; left_is = refl; number_is = omega arith; source_is = refl }

text_of-append : (xs ys : List TextLine) → text_of (xs ++ ys) ≡ text_of xs ++ text_of ys
text_of-append [] ys = refl
text_of-append (x ∷ xs) ys = ap (λ t. bytes_of x ++ t) (text_of-append xs ys) ∙ sym (append_assoc (bytes_of x) (text_of xs) (text_of ys))

pub took_then : (a b c : Reading) (s t : List ℕ) → Took a b s → Took b c t → Took a c (s ++ t)
took_then a b c s t p q =
    record {
      lines = p.lines ++ q.lines;
      text_is = text_of-append p.lines q.lines ∙ ap (λ x. x ++ text_of q.lines) p.text_is ∙ ap (λ x. s ++ x) q.text_is;
      left_is = p.left_is ∙ ap (λ ls. p.lines ++ ls) q.left_is ∙ sym (append_assoc p.lines q.lines c.left);
      number_is = omega (arith, p.number_is, q.number_is, length-append p.lines q.lines);
      source_is = q.source_is ∙ p.source_is;
    }

-- what a step gave, where the whole gave a value
pub then_ok : {A B : Type 0} (o : Result (A × Reading) ℕ) (next : A → Read B) (b : B) (after : Reading) → then_read o next ≡ Ok (b, after) → (a : A) × (between : Reading) × (o ≡ Ok (a, between)) × (next a between ≡ Ok (b, after))
then_ok (Err line) next b after e = cc
then_ok (Ok read) next b after e = (read.0, read.1, refl, e)

pub ok_parts : {A : Type 0} (a b : A) (lines after : Reading) → give a lines ≡ give b after → (a ≡ b) × (lines ≡ after)
ok_parts {A} a b lines after e =
    let pairs : (a, lines) ≡ (b, after) = cc in (ap (λ (p : A × Reading). p.0) pairs, ap (λ (p : A × Reading). p.1) pairs)

pub given_is : {A : Type 0} (a b : A) (lines after : Reading) → give a lines ≡ Ok (b, after) → (a ≡ b) × (lines ≡ after)
given_is a b lines after e = ok_parts a b lines after e

-- the next line
taken_is : {A : Type 0} (o : Option A) (lines after : Reading) (a : A) → taken o lines ≡ Ok (a, after) → (o ≡ Some a) × (lines ≡ after)
taken_is None lines after a e = cc
taken_is (Some b) lines after a e = let parts = ok_parts b a lines after e in (ap (λ x. Some x) parts.0, parts.1)

line_took : (form : LineForm) (before after : Reading) (others : List TextLine) (line : TextLine) (numbers : List ℤ) → before.left ≡ line ∷ others → behind before others ≡ after → IsLineOf form line numbers → Took before after (spelled_line form.keyword numbers)
line_took form before after others line numbers e h l =
    subst (λ r. Took before r (spelled_line form.keyword numbers)) h
    (record {
      lines = line ∷ [];
      text_is = append-nil (bytes_of line) ∙ ap₂ (λ bytes (ended : Bool). bytes ++ cond ended (10 ∷ []) []) l.spelled l.ended;
      left_is = e;
      number_is = refl;
      source_is = refl;
    })

row_sound : (form : LineForm) (before after : Reading) (left : List TextLine) (numbers : List ℤ) → before.left ≡ left → next_numbers form left before ≡ Ok (numbers, after) → Took before after (spelled_line form.keyword numbers) × AreOfForm form numbers
row_sound form before after [] numbers i e = cc
row_sound form before after (line ∷ others) numbers i e =
    let read = taken_is (line_numbers form line) (behind before others) after numbers e in
    let is = line_is form line numbers read.0 in
    (line_took form before after others line numbers i read.1 is, is.of_form)

-- the lines of a text that begins with a spelled line
first_line : (at : ℕ) (keyword : List ℕ) (numbers : List ℤ) (rest : List ℕ) → IsWord keyword → All IsShort numbers → lines_of at (spelled_line keyword numbers ++ rest) ≡ record { start = at; bytes = spelled_row keyword numbers; ended = true } ∷ lines_of (at + length (spelled_row keyword numbers) + 1) rest
first_line at keyword numbers rest w h =
    let row = spelled_row keyword numbers in
    ap (lines_of at) (append_assoc row (10 ∷ []) rest)
    ∙ lines_ended at (row ++ (10 ∷ rest)) row rest (slice_split_at (λ b. b == 10) row 10 rest (spelled_row-lacks keyword numbers w h) refl)

-- a line of a form is spelled by its numbers
pub row_spells : (form : LineForm) → IsWord form.keyword → Spells (numbers_due form) (spelled_line form.keyword) (AreOfForm form)
unfolding numbers_due
row_spells form w =
    record {
      sound = λ before after numbers e. row_sound form before after before.left numbers refl e;
      complete = λ before at numbers rest h e.
          let others = lines_of (at + length (spelled_row form.keyword numbers) + 1) rest in (
            behind before others,
            at + length (spelled_row form.keyword numbers) + 1,
            ap (λ left. next_numbers form left before) (e ∙ first_line at form.keyword numbers rest w h.short) ∙ ap (λ o. taken o (behind before others)) (is_line form at numbers w h),
            refl,
          );
    }

-- a value that is made of what is read
pub made_spells : {A B : Type 0} (read : Read A) (text : A → List ℕ) (FitA : A → Type 0) (f : A → B) (g : B → A) (FitB : B → Type 0) → Spells read text FitA → ((a : A) → FitA a → (g (f a) ≡ a) × FitB (f a)) → ((b : B) → FitB b → (f (g b) ≡ b) × FitA (g b)) → Spells (read >>= (λ a. give (f a))) (λ b. text (g b)) FitB
made_spells {A} {B} read text FitA f g FitB s there back =
    let next : A → Read B = λ a. give (f a) in
    record {
      sound = λ before after b e.
          let first = then_ok (read before) next b after e in
          let given = given_is (f first.0) b first.1 after first.3 in
          let took = s.sound before first.1 first.0 first.2 in
          let same = there first.0 took.1 in
          let P : B → Reading → Type 0 = λ b r. Took before r (text (g b)) × FitB b in
          subst (λ r. P b r) given.1 (subst (λ b. P b first.1) given.0 (subst (λ a. Took before first.1 (text a)) (sym same.0) took.0, same.1));
      complete = λ before at b rest h e.
          let same = back b h in
          let read' = s.complete before at (g b) rest same.1 e in
          (read'.0, read'.1, ap (λ o. then_read o next) read'.2 ∙ ap (λ b. Ok (b, read'.0)) same.0, read'.3);
    }

none_read : {A : Type 0} (text : A → List ℕ) (before : Reading) (at : ℕ) (xs : List A) (rest : List ℕ) → length xs ≡ 0 → before.left ≡ lines_of at (flat_map text xs ++ rest) → (after : Reading) × (place : ℕ) × (give [] before ≡ Ok (xs, after)) × (after.left ≡ lines_of place rest)
none_read text before at [] rest h e = (before, at, refl, e)
none_read text before at (x ∷ xs) rest h e = absurd (omega (arith, h))

more_read : {A : Type 0} (read : Read A) (text : A → List ℕ) (Fit : A → Type 0) → Spells read text Fit → (n : ℕ) → Spells (repeat_due n read) (flat_map text) (λ xs. (length xs ≡ n) × All Fit xs) → (before : Reading) (at : ℕ) (xs : List A) (rest : List ℕ) → length xs ≡ suc n → All Fit xs → before.left ≡ lines_of at (flat_map text xs ++ rest) → (after : Reading) × (place : ℕ) × (repeat_due (suc n) read before ≡ Ok (xs, after)) × (after.left ≡ lines_of place rest)
more_read read text Fit s n more before at [] rest h all e = absurd (omega (arith, h))
more_read {A} read text Fit s n more before at (x ∷ xs) rest h all e =
    let next : A → Read (List A) = λ first. (repeat_due n read >>= (λ others. give (first ∷ others))) in
    let last : List A → Read (List A) = λ others. give (x ∷ others) in
    let first = s.complete before at x (flat_map text xs ++ rest) (All-head Fit x xs all) (e ∙ ap (lines_of at) (append_assoc (text x) (flat_map text xs) rest)) in
    let others = more.complete first.0 first.1 xs rest (omega (arith, h), All-tail Fit x xs all) first.3 in
    (others.0, others.1, ap (λ o. then_read o next) first.2 ∙ ap (λ o. then_read o last) others.2, others.3)

-- the text of the first value and that of the others
pub repeat_spells : {A : Type 0} (read : Read A) (text : A → List ℕ) (Fit : A → Type 0) → Spells read text Fit → (n : ℕ) → Spells (repeat_due n read) (flat_map text) (λ xs. (length xs ≡ n) × All Fit xs)
repeat_spells {A} read text Fit s zero =
    record {
      sound = λ before after xs e.
          let given = given_is [] xs before after e in
          let P : List A → Reading → Type 0 = λ xs r. Took before r (flat_map text xs) × ((length xs ≡ 0) × All Fit xs) in
          subst (λ r. P xs r) given.1 (subst (λ xs. P xs before) given.0 (took_none before, (refl, All-nil Fit)));
      complete = λ before at xs rest h e. none_read text before at xs rest h.0 e;
    }
repeat_spells {A} read text Fit s (suc n) =
    let more = repeat_spells read text Fit s n in
    record {
      sound = λ before after xs e.
          let next : A → Read (List A) = λ first. (repeat_due n read >>= (λ others. give (first ∷ others))) in
          let first = then_ok (read before) next xs after e in
          let last : List A → Read (List A) = λ others. give (first.0 ∷ others) in
          let others = then_ok (repeat_due n read first.1) last xs after first.3 in
          let given = given_is (first.0 ∷ others.0) xs others.1 after others.3 in
          let one = s.sound before first.1 first.0 first.2 in
          let many = more.sound first.1 others.1 others.0 others.2 in
          let P : List A → Reading → Type 0 = λ xs r. Took before r (flat_map text xs) × ((length xs ≡ suc n) × All Fit xs) in
          subst (λ r. P xs r) given.1
          (subst (λ xs. P xs others.1) given.0
          (took_then before first.1 others.1 (text first.0) (flat_map text others.0) one.0 many.0, (ap suc many.1.0, All-cons Fit first.0 others.0 one.1 many.1.1)));
      complete = λ before at xs rest h e. more_read read text Fit s n more before at xs rest h.0 h.1 e;
    }
