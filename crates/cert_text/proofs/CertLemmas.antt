-- The line behind the first.
use Rattle.std.proofs.Common.{◌≡◌, ℕ, Option, Some, None, Ok, List, [], ◌∷◌, drop, sym, ap, ◌∙◌}
use Rattle.text_parts.specs.Lines.{TextLine, Reading, lines_of}
use Rattle.plan_text.specs.inside.LineReading.{taken, behind}
use Rattle.plan_text.specs.inside.PlanReading.{start_of}
use Rattle.plan_text.proofs.SpellsLemmas.{ok_parts}
use Rattle.cert_text.specs.WordForms.{WordForm, line_value}
use Rattle.cert_text.specs.inside.NodeReading.{next_of, line_due}

taken_behind : {A : Type 0} (o : Option A) (lines after : Reading) (a : A) → taken o lines ≡ Ok (a, after) → lines ≡ after
taken_behind None lines after a e = cc
taken_behind (Some b) lines after a e = (ok_parts b a lines after e).1

next_left : {A : Type 0} (form : WordForm A) (left : List TextLine) (before after : Reading) (a : A) → next_of form left before ≡ Ok (a, after) → after.left ≡ drop 1 left
next_left form [] before after a e = cc
next_left form (line ∷ others) before after a e = ap (λ (r : Reading). r.left) (sym (taken_behind (line_value form line) (behind before others) after a e))

pub second_line : {A : Type 0} (form : WordForm A) (bytes : List ℕ) (before after : Reading) (a : A) → before ≡ start_of bytes → line_due form before ≡ Ok (a, after) → drop 1 (lines_of 0 bytes) ≡ after.left
unfolding line_due
second_line form bytes before after a s e =
    ap (λ (r : Reading). drop 1 r.left) (sym s) ∙ sym (next_left form before.left before after a e)
