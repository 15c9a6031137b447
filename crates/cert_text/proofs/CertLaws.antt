-- A certificate is read from its text, and what is read has the text that was taken.
use Rattle.std.proofs.Common.{◌≡◌, inl, inr, ℕ, ℤ, ◌≤◌, ◌<◌, ◌^◌, Bool, true, false, cond, Option, Some, None, Result, Ok, Err, List, [], ◌∷◌, ◌++◌, map, codes, refl, sym, ap, subst, ◌∙◌, arith, append_assoc}
use Rattle.std.specs.Option.{is_some}
use Rattle.std.specs.Fmt.{signed_decimal}
use Rattle.std.proofs.lemmas.Bool.{cond-true, cond-false, cases_Bool}
use Rattle.std.proofs.lemmas.List.{append-nil}
use Rattle.numbers.specs.Fractions.{fraction_text}
use Rattle.text_parts.specs.Words.{words_of}
use Rattle.text_parts.specs.Lines.{TextLine, Reading, lines_of, text_of}
use Rattle.text_parts.proofs.LinesLemmas.{text_of-lines_of}
use Rattle.road_types.specs.RoadPrograms.{row_count}
use Rattle.road_types.specs.declared.road.Road.{Road}
use Rattle.plan_rules.specs.declared.plan.Plan.{Plan}
use Rattle.plan_text.specs.LineForms.{den_form, line_numbers}
use Rattle.plan_text.specs.PlanText.{plan_text, HasText}
use Rattle.plan_text.specs.Taken.{Took}
use Rattle.plan_text.specs.inside.LineReading.{then_read, ◌>>=◌, give, taken, behind, next_numbers, numbers_due}
use Rattle.plan_text.specs.inside.PlanReading.{den_due, plan_due, start_of}
use Rattle.plan_text.proofs.WordLemmas.{IsWord, is_word, words-spelled_row}
use Rattle.plan_text.proofs.FormLaws.{line_is}
use Rattle.plan_text.proofs.SpellsLemmas.{Spells, then_ok, ok_parts, made_spells}
use Rattle.plan_text.proofs.PlanLaws.{plan_spells}
use Rattle.cert_tree.specs.Trees.{BoxTree}
use Rattle.cert_text.specs.declared.heading.PricedPlan.{PricedPlan}
use Rattle.cert_text.specs.declared.heading.Heading.{Heading}
use Rattle.cert_text.specs.NodeText.{spelled_words, tree_text, IsSpelledTree, most_levels}
use Rattle.cert_text.specs.CertText.{Certificate, planned_text, bound_words, cert_text, IsStated, IsStatedOrNone, IsPricedOrNone, HasCertText, IsCertText, AreApart}
use Rattle.cert_text.specs.WordForms.{WordForm, line_value, is_next}
use Rattle.cert_text.specs.inside.NodeReading.{next_of, line_due, tree_due}
use Rattle.cert_text.specs.inside.CertReading.{priced_due, unplanned_due, planned_with, planned_due, heading_due, tree_end_due, cert_due, value_with_nothing_left, whole_value, cert_of_text}
use Rattle.cert_text.specs.StatedForms.{keyword_form, cost_form, bound_form}
use Rattle.cert_text.proofs.LineLaws.{form_spells, bind_spells, seq_spells}
use Rattle.cert_text.proofs.TreeLaws.{tree_spells}
use Rattle.cert_text.proofs.HeadingLaws.{Always, keyword_tells, cost_tells, bound_tells}

keyword_spells : (keyword : List ℕ) → IsWord keyword → Spells (line_due (keyword_form keyword)) (λ nothing. spelled_words (keyword ∷ [])) Always
keyword_spells keyword h = form_spells (keyword_form keyword) (λ nothing. keyword ∷ []) Always (keyword_tells keyword h)

-- a plan and its cost
abbrev priced_text : Road → PricedPlan → List ℕ
priced_text road priced = plan_text road priced.plan ++ spelled_words (codes "cost" ∷ fraction_text priced.cost ∷ [])

abbrev IsPriced : Road → PricedPlan → Type 0
IsPriced road priced = HasText road priced.plan × IsStated priced.cost

priced_spells : (road : Road) → Spells (priced_due road) (priced_text road) (IsPriced road)
unfolding priced_due
priced_spells road =
    bind_spells (plan_due road) (plan_text road) (HasText road) (λ plan. line_due cost_form) (λ plan cost. spelled_words (codes "cost" ∷ fraction_text cost ∷ [])) (λ plan. IsStated)
    (λ plan cost. record { plan = plan; cost = cost }) (priced_text road) (IsPriced road)
    (plan_spells road)
    (λ plan h. form_spells cost_form (λ f. codes "cost" ∷ fraction_text f ∷ []) IsStated cost_tells)
    (λ plan cost h k. (refl, (h, k)))
    (λ priced h. (priced.plan, priced.cost, refl, h.0, h.1))

unplanned_spells : Spells unplanned_due (λ planned. spelled_words (codes "unplanned" ∷ [])) (λ planned. None ≡ planned)
unplanned_spells =
    made_spells (line_due (keyword_form (codes "unplanned"))) (λ nothing. spelled_words (codes "unplanned" ∷ [])) Always (λ nothing. None) (λ planned. tt) (λ planned. None ≡ planned)
    (keyword_spells (codes "unplanned") (is_word (codes "unplanned") refl refl))
    (λ nothing h. (refl, refl))
    (λ planned h. (h, tt))

-- a line that was read was next
taken_some : {A : Type 0} (o : Option A) (lines after : Reading) (a : A) → taken o lines ≡ Ok (a, after) → is_some o ≡ true
taken_some None lines after a e = cc
taken_some (Some b) lines after a e = refl

was_next_of : {A : Type 0} (form : WordForm A) (left : List TextLine) (before after : Reading) (a : A) → next_of form left before ≡ Ok (a, after) → is_next form left ≡ true
was_next_of form [] before after a e = cc
was_next_of form (line ∷ others) before after a e = taken_some (line_value form line) (behind before others) after a e

was_next : {A : Type 0} (form : WordForm A) (before after : Reading) (a : A) → line_due form before ≡ Ok (a, after) → is_next form before.left ≡ true
unfolding line_due
was_next form before after a e = was_next_of form before.left before after a e

-- the first line of a plan isn't that of no plan
plan_words : (words : List (List ℕ)) → is_some (keyword_form (codes "unplanned") (codes "plan" ∷ words)) ≡ false
unfolding keyword_form
plan_words [] = refl
plan_words (word ∷ words) = refl

other_line : (line : TextLine) (words : List (List ℕ)) → words_of line.bytes ≡ codes "plan" ∷ words → is_some (line_value (keyword_form (codes "unplanned")) line) ≡ false
unfolding line_value
other_line line words e = by_end line.ended
  where
    by_end : (ended : Bool) → is_some (cond ended (keyword_form (codes "unplanned") (words_of line.bytes)) None) ≡ false
    by_end true = ap (λ ws. is_some (keyword_form (codes "unplanned") ws)) e ∙ plan_words words
    by_end false = refl

taken_value : {A : Type 0} (o : Option A) (lines after : Reading) (a : A) → taken o lines ≡ Ok (a, after) → o ≡ Some a
taken_value None lines after a e = cc
taken_value (Some b) lines after a e = ap (λ x. Some x) (ok_parts b a lines after e).0

den_not_next : (left : List TextLine) (before after : Reading) (numbers : List ℤ) → next_numbers den_form left before ≡ Ok (numbers, after) → is_next (keyword_form (codes "unplanned")) left ≡ false
den_not_next [] before after numbers e = refl
den_not_next (line ∷ others) before after numbers e =
    let is = line_is den_form line numbers (taken_value (line_numbers den_form line) (behind before others) after numbers e) in
    other_line line (map signed_decimal numbers) (ap words_of is.spelled ∙ words-spelled_row (codes "plan") numbers (is_word (codes "plan") refl refl) is.of_form.short)

plan_not_next : (road : Road) (before after : Reading) (plan : Plan) → plan_due road before ≡ Ok (plan, after) → is_next (keyword_form (codes "unplanned")) before.left ≡ false
unfolding plan_due den_due numbers_due
plan_not_next road before after plan e =
    let den = then_ok _ _ plan after e in
    let numbers = then_ok _ _ den.0 den.1 den.2 in
    den_not_next before.left before numbers.1 numbers.0 numbers.2

planned_spells : (road : Road) → Spells (planned_due road) (planned_text road) (IsPricedOrNone road)
unfolding planned_due
planned_spells road =
    record {
      sound = λ before after planned e.
          elim (cases_Bool (is_next (keyword_form (codes "unplanned")) before.left)) [
            | inl yes' ↦
                let got = unplanned_spells.sound before after planned (sym (cond-true _ (unplanned_due before) (planned_with road before) yes') ∙ e) in
                let P : Option PricedPlan → Type 0 = λ p. Took before after (planned_text road p) × IsPricedOrNone road p in
                subst P got.1 (got.0, tt)
            | inr no' ↦
                let got : planned_with road before ≡ Ok (planned, after) = sym (cond-false _ (unplanned_due before) (planned_with road before) no') ∙ e in
                let priced = then_ok (priced_due road before) (λ priced. give (Some priced)) planned after got in
                let parts = ok_parts (Some priced.0) planned priced.1 after priced.3 in
                let read = (priced_spells road).sound before priced.1 priced.0 priced.2 in
                let P : Option PricedPlan → Reading → Type 0 = λ p r. Took before r (planned_text road p) × IsPricedOrNone road p in
                subst (λ r. P planned r) parts.1 (subst (λ p. P p priced.1) parts.0 read)
          ];
      complete = λ before at planned rest h e. planned_complete before at planned rest h e;
    }
  where
    planned_complete : (before : Reading) (at : ℕ) (planned : Option PricedPlan) (rest : List ℕ) → IsPricedOrNone road planned → before.left ≡ lines_of at (planned_text road planned ++ rest) → (after : Reading) × (place : ℕ) × (cond (is_next (keyword_form (codes "unplanned")) before.left) (unplanned_due before) (planned_with road before) ≡ Ok (planned, after)) × (after.left ≡ lines_of place rest)
    planned_complete before at None rest h e =
        let keyword = (keyword_spells (codes "unplanned") (is_word (codes "unplanned") refl refl)).complete before at tt rest tt e in
        let read = unplanned_spells.complete before at None rest refl e in
        (read.0, read.1, cond-true _ (unplanned_due before) (planned_with road before) (was_next (keyword_form (codes "unplanned")) before keyword.0 tt keyword.2) ∙ read.2, read.3)
    planned_complete before at (Some priced) rest h e =
        let read = (priced_spells road).complete before at priced rest h e in
        let plan = (plan_spells road).complete before at priced.plan (spelled_words (codes "cost" ∷ fraction_text priced.cost ∷ []) ++ rest) h.0 (e ∙ ap (lines_of at) (append_assoc (plan_text road priced.plan) (spelled_words (codes "cost" ∷ fraction_text priced.cost ∷ [])) rest)) in
        (read.0, read.1, cond-false _ (unplanned_due before) (planned_with road before) (plan_not_next road before plan.0 priced.plan plan.2) ∙ ap (λ o. then_read o (λ priced. give (Some priced))) read.2, read.3)

-- what stands before the tree
abbrev stated_text : Road → Heading → List ℕ
stated_text road heading = planned_text road heading.planned ++ spelled_words (bound_words heading.bound)

abbrev pub heading_text : Road → Heading → List ℕ
heading_text road heading = spelled_words (codes "certificate" ∷ []) ++ stated_text road heading

abbrev pub IsHeading : Road → Heading → Type 0
IsHeading road heading = IsPricedOrNone road heading.planned × IsStatedOrNone heading.bound

pub heading_spells : (road : Road) → Spells (heading_due road) (heading_text road) (IsHeading road)
unfolding heading_due
heading_spells road =
    seq_spells (line_due (keyword_form (codes "certificate"))) (λ nothing. spelled_words (codes "certificate" ∷ [])) Always
    (λ start. (planned_due road >>= (λ planned. (line_due bound_form >>= (λ bound. give (record { planned = planned; bound = bound }))))))
    (stated_text road) (λ nothing. IsHeading road) (heading_text road) (IsHeading road)
    (keyword_spells (codes "certificate") (is_word (codes "certificate") refl refl))
    (λ nothing h.
    bind_spells (planned_due road) (planned_text road) (IsPricedOrNone road) (λ planned. line_due bound_form) (λ planned bound. spelled_words (bound_words bound)) (λ planned. IsStatedOrNone)
    (λ planned bound. record { planned = planned; bound = bound }) (stated_text road) (IsHeading road)
    (planned_spells road)
    (λ planned h. form_spells bound_form bound_words IsStatedOrNone bound_tells)
    (λ planned bound h k. (refl, (h, k)))
    (λ heading h. (heading.planned, heading.bound, refl, h.0, h.1)))
    (λ nothing heading h k. (refl, k))
    (λ heading h. (tt, tt, h))

-- the tree and the last line
abbrev tree_end_text : BoxTree → List ℕ
tree_end_text tree = tree_text tree ++ spelled_words (codes "end" ∷ [])

pub few_rows : (rows : ℕ) → rows ≤ 600 → rows < 10 ^ 30
few_rows rows h = omega (arith, h)

tree_end_spells : (road : Road) → row_count road ≤ 600 → Spells (tree_end_due road) tree_end_text (IsSpelledTree (row_count road) most_levels)
unfolding tree_end_due
tree_end_spells road few =
    bind_spells (tree_due (row_count road) most_levels) tree_text (IsSpelledTree (row_count road) most_levels) (λ tree. line_due (keyword_form (codes "end"))) (λ tree nothing. spelled_words (codes "end" ∷ [])) (λ tree. Always)
    (λ tree nothing. tree) tree_end_text (IsSpelledTree (row_count road) most_levels)
    (tree_spells (row_count road) most_levels (few_rows (row_count road) few))
    (λ tree h. keyword_spells (codes "end") (is_word (codes "end") refl refl))
    (λ tree nothing h k. (refl, h))
    (λ tree h. (tree, tt, refl, h, tt))

cert_lines : (road : Road) (cert : Certificate) → heading_text road (record { planned = cert.planned; bound = cert.bound }) ++ tree_end_text cert.tree ≡ cert_text road cert
unfolding cert_text
cert_lines road cert =
    let start = spelled_words (codes "certificate" ∷ []) in
    let planned = planned_text road cert.planned in
    let bound = spelled_words (bound_words cert.bound) in
    append_assoc start (planned ++ bound) (tree_end_text cert.tree) ∙ ap (λ t. start ++ t) (append_assoc planned bound (tree_end_text cert.tree))

pub cert_spells : (road : Road) → row_count road ≤ 600 → Spells (cert_due road) (cert_text road) (HasCertText road)
unfolding cert_due
cert_spells road few =
    bind_spells (heading_due road) (heading_text road) (IsHeading road) (λ heading. tree_end_due road) (λ heading tree. tree_end_text tree) (λ heading. IsSpelledTree (row_count road) most_levels)
    (λ heading tree. record { planned = heading.planned; bound = heading.bound; tree = tree }) (cert_text road) (HasCertText road)
    (heading_spells road)
    (λ heading h. tree_end_spells road few)
    (λ heading tree h k. (cert_lines road (record { planned = heading.planned; bound = heading.bound; tree = tree }), record { planned = h.0; bound = h.1; tree = k }))
    (λ cert h. (record { planned = cert.planned; bound = cert.bound }, cert.tree, refl, (h.planned, h.bound), h.tree))

-- a text to its last byte
nothing_left : (cert read : Certificate) (number : ℕ) (left : List TextLine) → value_with_nothing_left read number left ≡ Ok cert → (read ≡ cert) × (left ≡ [])
nothing_left cert read number [] e = (cc, refl)
nothing_left cert read number (line ∷ lines) e = cc

whole_found : (road : Road) → row_count road ≤ 600 → (bytes : List ℕ) (cert : Certificate) (due : Result (Certificate × Reading) ℕ) → cert_due road (start_of bytes) ≡ due → whole_value due ≡ Ok cert → IsCertText road bytes cert
whole_found road few bytes cert (Err line) d e = cc
whole_found road few bytes cert (Ok read) d e =
    let left = nothing_left cert read.0 read.1.number read.1.left e in
    let got = (cert_spells road few).sound (start_of bytes) read.1 read.0 d in
    let text = sym (text_of-lines_of 0 bytes) ∙ ap text_of (got.0.left_is ∙ ap (λ ls. got.0.lines ++ ls) left.1 ∙ append-nil got.0.lines) ∙ got.0.text_is in
    subst (IsCertText road bytes) left.0 (record { has_text = got.1; is_text = text })

-- what is given is the certificate whose text the bytes are
pub cert_of_text-found : (road : Road) → row_count road ≤ 600 → (bytes : List ℕ) (cert : Certificate) → cert_of_text road bytes ≡ Ok cert → IsCertText road bytes cert
unfolding cert_of_text
cert_of_text-found road few bytes cert e = whole_found road few bytes cert (cert_due road (start_of bytes)) refl e

-- a certificate is given for its text
pub cert_of_text-exact : (road : Road) → row_count road ≤ 600 → (bytes : List ℕ) (cert : Certificate) → IsCertText road bytes cert → cert_of_text road bytes ≡ Ok cert
unfolding cert_of_text
cert_of_text-exact road few bytes cert h =
    let read = (cert_spells road few).complete (start_of bytes) 0 cert [] h.has_text (ap (lines_of 0) (h.is_text ∙ sym (append-nil (cert_text road cert)))) in
    ap whole_value read.2 ∙ ap (value_with_nothing_left cert read.0.number) read.3

-- no text of a certificate is the front of another's
pub certs_apart : (road : Road) → row_count road ≤ 600 → AreApart road
certs_apart road few = λ cert other rest h k e.
    let text = cert_text road other in
    let one = (cert_spells road few).complete (start_of text) 0 cert rest h (ap (lines_of 0) (sym e)) in
    let two = (cert_spells road few).complete (start_of text) 0 other [] k (ap (lines_of 0) (sym (append-nil text))) in
    let same = ok_parts cert other one.0 two.0 (sym one.2 ∙ two.2) in
    (same.0, sym (text_of-lines_of one.1 rest) ∙ ap text_of (sym one.3) ∙ ap (λ (r : Reading). text_of r.left) same.1 ∙ ap text_of two.3)
