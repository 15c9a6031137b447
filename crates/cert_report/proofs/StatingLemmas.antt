-- What is read again of a certificate's text is what the certificate states.
use Rattle.std.proofs.Common.{◌≡◌, ℕ, Option, Some, None, Result, Ok, Err, List, [], ◌∷◌, ◌++◌, codes, refl, sym, ap, subst, ◌∙◌, append_assoc}
use Rattle.text_parts.specs.Lines.{Reading, lines_of, text_of}
use Rattle.text_parts.proofs.LinesLemmas.{text_of-lines_of}
use Rattle.road_types.specs.declared.road.Road.{Road}
use Rattle.plan_text.specs.declared.error.TextErr.{TextErr}
use Rattle.plan_text.specs.declared.error.TextErr.TheVariants.{Bad, NoMemory}
use Rattle.plan_text.specs.inside.LineReading.{Gives}
use Rattle.plan_text.specs.inside.PlanReading.{start_of}
use Rattle.plan_text.proofs.SpellsLemmas.{ok_parts}
use Rattle.cert_text.specs.declared.heading.PricedPlan.{PricedPlan}
use Rattle.cert_text.specs.declared.heading.Heading.{Heading}
use Rattle.cert_text.specs.NodeText.{spelled_words, tree_text}
use Rattle.cert_text.specs.CertText.{Certificate, planned_text, bound_words, cert_text, IsCertText}
use Rattle.cert_text.specs.inside.CertReading.{heading_due}
use Rattle.cert_text.proofs.CertLaws.{heading_text, heading_spells}
use Rattle.cert_text.specs.Validity.{IsPlannedRight, IsUnbeaten}
use Rattle.cert_checker.specs.Answered.{IsAnswerOf, IsProved}
use Rattle.cert_checker.specs.declared.refusal.Checked.{Checked}
use Rattle.cert_report.specs.CertReport.{open_leaves}
use Rattle.cert_report.specs.inside.Counting.{IsWholeCount}
use Rattle.cert_report.specs.inside.Stating.{States, StatesHeading, HasReport}

-- the heading of a certificate, and the text behind it
abbrev pub heading_of : Certificate → Heading
heading_of cert = record { planned = cert.planned; bound = cert.bound }

abbrev pub end_text : List ℕ
end_text = spelled_words (codes "end" ∷ [])

parts_of_text : (road : Road) (cert : Certificate) → cert_text road cert ≡ heading_text road (heading_of cert) ++ (tree_text cert.tree ++ end_text)
unfolding cert_text
parts_of_text road cert =
    let start = spelled_words (codes "certificate" ∷ []) in
    let planned = planned_text road cert.planned in
    let bound = spelled_words (bound_words cert.bound) in
    let last = tree_text cert.tree ++ end_text in
    ap (λ t. start ++ t) (sym (append_assoc planned bound last)) ∙ sym (append_assoc start (planned ++ bound) last)

-- the heading is the certificate's, and its tree comes next
pub record IsHeadingRead (cert : Certificate) (heading : Heading) (after : Reading) : Type 0 where
  pub heading_is : heading ≡ heading_of cert
  pub text_is : text_of after.left ≡ tree_text cert.tree ++ end_text

pub heading_read : (road : Road) (bytes : List ℕ) (before after : Reading) (heading : Heading) (cert : Certificate) → before ≡ start_of bytes → heading_due road before ≡ Ok (heading, after) → IsCertText road bytes cert → IsHeadingRead cert heading after
heading_read road bytes before after heading cert s e h =
    let rest = tree_text cert.tree ++ end_text in
    let read = (heading_spells road).complete (start_of bytes) 0 (heading_of cert) rest (h.has_text.planned, h.has_text.bound) (ap (lines_of 0) (h.is_text ∙ parts_of_text road cert)) in
    let same = ok_parts heading (heading_of cert) after read.0 (sym e ∙ ap (heading_due road) s ∙ read.2) in
    record { heading_is = same.0; text_is = ap (λ (r : Reading). text_of r.left) same.1 ∙ ap text_of read.3 ∙ text_of-lines_of read.1 rest }

not_ok : {A : Type 0} (o : Result A ℕ) (line : ℕ) (a : A) → o ≡ Err line → o ≡ Ok a → ⊥
not_ok o line a e f = cc

-- no line of the heading of a certificate's text is refused
pub heading_failed : (road : Road) (bytes : List ℕ) (before after : Reading) (error : TextErr) (cert : Certificate) → before ≡ start_of bytes → Gives (heading_due road before) (Err error) after → IsCertText road bytes cert → States cert (Err error)
heading_failed road bytes before after (Bad line) cert s e h =
    let rest = tree_text cert.tree ++ end_text in
    let read = (heading_spells road).complete (start_of bytes) 0 (heading_of cert) rest (h.has_text.planned, h.has_text.bound) (ap (lines_of 0) (h.is_text ∙ parts_of_text road cert)) in
    not_ok (heading_due road before) line (heading_of cert, read.0) e (ap (heading_due road) s ∙ read.2)
heading_failed road bytes before after NoMemory cert s e h = tt

no_heading : (cert : Certificate) (error : TextErr) → States cert (Err error) → StatesHeading cert (Err error)
no_heading cert (Bad line) h = h
no_heading cert NoMemory h = tt

-- what is read before the tree is what the certificate states
pub reads_heading : (road : Road) (bytes : List ℕ) (before after : Reading) (answer : Result Heading TextErr) (cert : Certificate) → before ≡ start_of bytes
    → Gives (heading_due road before) answer after → IsCertText road bytes cert → StatesHeading cert answer
reads_heading road bytes before after (Ok heading) cert s e h =
    let read = heading_read road bytes before after heading cert s e h in
    record { planned_is = ap (λ (heading : Heading). heading.planned) read.heading_is; bound_is = ap (λ (heading : Heading). heading.bound) read.heading_is }
reads_heading road bytes before after (Err error) cert s e h = no_heading cert error (heading_failed road bytes before after error cert s e h)

pub not_counted : (cert : Certificate) (error : TextErr) → IsWholeCount (Err error) (open_leaves cert.tree) → States cert (Err error)
not_counted cert (Bad line) h = h
not_counted cert NoMemory h = tt

-- ---- a valid certificate with a plan has a bound

pub no_plan : (road : Road) (planned : Option PricedPlan) → IsPlannedRight road planned → IsUnbeaten road None → planned ≡ None
no_plan road None p u = refl
no_plan road (Some priced) p u = absurd (u priced.plan p.0)

pub report_there : (road : Road) (bytes : List ℕ) (checked : Checked) → IsAnswerOf road bytes checked → IsProved road bytes checked → HasReport road bytes
report_there road bytes checked a p = record {
  cert = a.cert;
  valid = a.valid;
  bounded = λ none. no_plan road a.cert.planned a.valid.valid.planned (subst (IsUnbeaten road) (a.bound_is ∙ none) p.bound);
}
