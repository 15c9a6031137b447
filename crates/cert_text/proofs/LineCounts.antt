-- How many lines are taken.
use Rattle.std.proofs.Common.{◌≡◌, ℕ, ℤ, zero, suc, ◌+◌, Option, Some, None, Ok, List, [], ◌∷◌, length, refl, sym, ap, subst, arith}
use Rattle.text_parts.specs.Lines.{TextLine, Reading}
use Rattle.plan_text.specs.inside.LineReading.{◌>>=◌, give, taken, behind}
use Rattle.plan_text.proofs.SpellsLemmas.{then_ok, ok_parts}
use Rattle.cert_text.specs.declared.head.Head.{Head}
use Rattle.cert_text.specs.declared.head.Head.TheVariants.{Low, Dead, Parted}
use Rattle.cert_text.specs.NodeText.{Root, low_leaf, dead_leaf, split_at}
use Rattle.cert_text.specs.WordForms.{WordForm, head_form, mult_form, line_value}
use Rattle.cert_text.specs.inside.NodeReading.{next_of, line_due, mults_due, root_behind, root_due, root_on}
use Rattle.cert_text.proofs.LineLaws.{nothing_read}

-- so many lines were taken
pub record IsAfter (before after : Reading) (count : ℕ) : Type 0 where
  pub number_is : after.number ≡ before.number + count
  pub left_is : length after.left + count ≡ length before.left

taken_after : {A : Type 0} (o : Option A) (lines after : Reading) (a : A) → taken o lines ≡ Ok (a, after) → lines ≡ after
taken_after None lines after a e = cc
taken_after (Some b) lines after a e = (ok_parts b a lines after e).1

next_after : {A : Type 0} (form : WordForm A) (left : List TextLine) (before after : Reading) (a : A) → left ≡ before.left → next_of form left before ≡ Ok (a, after) → IsAfter before after 1
next_after form [] before after a l e = cc
next_after form (line ∷ others) before after a l e =
    let same = taken_after (line_value form line) (behind before others) after a e in
    let count = ap length l in
    subst (λ r. IsAfter before r 1) same (record { number_is = refl; left_is = omega (arith, count) })

pub line_after : {A : Type 0} (form : WordForm A) (before after : Reading) (a : A) → line_due form before ≡ Ok (a, after) → IsAfter before after 1
unfolding line_due
line_after form before after a e = next_after form before.left before after a refl e

after_then : (a b c : Reading) (m n k : ℕ) → IsAfter a b m → IsAfter b c n → m + n ≡ k → IsAfter a c k
after_then a b c m n k p q e = record { number_is = omega (arith, p.number_is, q.number_is, e); left_is = omega (arith, p.left_is, q.left_is, e) }

after_none : (a b : Reading) → a ≡ b → IsAfter a b 0
after_none a b e = subst (λ r. IsAfter a r 0) e (record { number_is = omega arith; left_is = omega arith })

mults_after : (rows before count : ℕ) (lines after : Reading) (mults : List (ℕ × ℤ)) → mults_due rows before count lines ≡ Ok (mults, after) → IsAfter lines after (length mults)
mults_after rows before zero lines after mults e =
    let parts = ok_parts [] mults lines after e in
    subst (λ ms. IsAfter lines after (length ms)) parts.0 (after_none lines after parts.1)
mults_after rows before (suc count) lines after mults e =
    let one = then_ok (line_due (mult_form rows before) lines) (λ mult. (mults_due rows mult.0 count >>= (λ mults. give (mult ∷ mults)))) mults after e in
    let rest = then_ok (mults_due rows one.0.0 count one.1) (λ mults. give (one.0 ∷ mults)) mults after one.3 in
    let parts = ok_parts (one.0 ∷ rest.0) mults rest.1 after rest.3 in
    let first = line_after (mult_form rows before) lines one.1 one.0 one.2 in
    let others = mults_after rows one.0.0 count one.1 rest.1 rest.0 rest.2 in
    subst (λ ms. IsAfter lines after (length ms)) parts.0
    (subst (λ r. IsAfter lines r (length (one.0 ∷ rest.0))) parts.1 (after_then lines one.1 rest.1 1 (length rest.0) (length (one.0 ∷ rest.0)) first others (omega arith)))

-- the lines of a node
abbrev pub root_lines : Root → ℕ
root_lines (low_leaf scale mults cause) = 1 + length mults
root_lines (dead_leaf mults) = 1 + length mults
root_lines (split_at split) = 1

root_rest_after : (rows : ℕ) (head : Head) (lines after : Reading) (root : Root) → root_behind rows head lines ≡ Ok (root, after) → (k : ℕ) × (root_lines root ≡ 1 + k) × IsAfter lines after k
root_rest_after rows (Low scale cause count) lines after root e =
    let rest = then_ok (mults_due rows 0 count lines) (λ mults. give (low_leaf scale mults cause)) root after e in
    let parts = ok_parts (low_leaf scale rest.0 cause) root rest.1 after rest.3 in
    (length rest.0, ap root_lines (sym parts.0), subst (λ r. IsAfter lines r (length rest.0)) parts.1 (mults_after rows 0 count lines rest.1 rest.0 rest.2))
root_rest_after rows (Dead count) lines after root e =
    let rest = then_ok (mults_due rows 0 count lines) (λ mults. give (dead_leaf mults)) root after e in
    let parts = ok_parts (dead_leaf rest.0) root rest.1 after rest.3 in
    (length rest.0, ap root_lines (sym parts.0), subst (λ r. IsAfter lines r (length rest.0)) parts.1 (mults_after rows 0 count lines rest.1 rest.0 rest.2))
root_rest_after rows (Parted split) lines after root e =
    let parts = ok_parts (split_at split) root lines after e in
    (0, ap root_lines (sym parts.0), after_none lines after parts.1)

root_after : (rows : ℕ) (before after : Reading) (root : Root) → root_due rows before ≡ Ok (root, after) → IsAfter before after (root_lines root)
unfolding root_due
root_after rows before after root e =
    let head = then_ok (line_due (head_form rows) before) (root_behind rows) root after e in
    let rest = root_rest_after rows head.0 head.1 after root head.3 in
    after_then before head.1 after 1 rest.0 (root_lines root) (line_after (head_form rows) before head.1 head.0 head.2) rest.2 (sym rest.1)

pub root_on_after : (rows level : ℕ) (before after : Reading) (root : Root) → root_on rows level before ≡ Ok (root, after) → IsAfter before after (root_lines root)
root_on_after rows zero before after root e = absurd (nothing_read before after root e)
root_on_after rows (suc level) before after root e = root_after rows before after root e
