-- What is refused of a certificate but for its stated costs, and that nothing is refused exactly where its bound can be carried.
use Rattle.std.proofs.Common.{◌≡◌, inl, inr, ℕ, ℤ, pos, zero, suc, ◌+◌, ◌≤◌, ◌<ℤ◌, Option, Some, None, Result, Ok, Err, List, length, refl, sym, ap, ap₂, subst, ◌∙◌, arith}
use Rattle.std.specs.Prelude.{⊤}
use Rattle.road_types.specs.declared.road.Road.{Road}
use Rattle.road_types.specs.Accepted.{IsAccepted}
use Rattle.road_types.specs.RoadPrograms.{row_count as road_row_count}
use Rattle.plan_text.specs.declared.error.TextErr.{TextErr}
use Rattle.plan_text.specs.declared.error.TextErr.TheVariants.{Bad, NoMemory as NoRoom}
use Rattle.plan_text.specs.Misfits.{IfBad}
use Rattle.milp_builder.specs.Boxes.{root_box}
use Rattle.milp_builder.specs.BoxPrograms.{box_program}
use Rattle.milp_builder.specs.Parts.{first_part, second_part}
use Rattle.milp_builder.specs.declared.boxes.BoxRange.{BoxRange}
use Rattle.cert_tree.specs.Trees.{BoxTree, low, dead, fork, AreMultipliersBehind}
use Rattle.cert_tree.specs.Soundness.{told_value, AreSound, SplitsFit, has_low}
use Rattle.cert_tree.specs.Proving.{AreSigned, HasProvingLeaves}
use Rattle.cert_tree.proofs.LeafLemmas.{box_rows}
use Rattle.cert_text.specs.declared.cert.Cert.{Cert}
use Rattle.cert_text.specs.declared.heading.PricedPlan.{PricedPlan}
use Rattle.cert_text.specs.NodeText.{most_levels, IsSpelledTree}
use Rattle.cert_text.specs.CertText.{Certificate, IsCertText}
use Rattle.cert_text.specs.Certs.{certificate_of, IsTextOf}
use Rattle.cert_text.specs.Misfits.{refused_line}
use Rattle.cert_text.specs.Validity.{IsPlanAdmissible, IsCarriable, longest_text}
use Rattle.cert_text.specs.inside.CertReading.{cert_of_text}
use Rattle.cert_text.proofs.CertLaws.{cert_of_text-found, cert_of_text-exact}
use Rattle.cert_text.proofs.MisfitLaws.{refused_line-is}
use Rattle.cert_checker.specs.declared.refusal.Refusal.{Refusal}
use Rattle.cert_checker.specs.declared.refusal.CertRule.{CertRule}
use Rattle.cert_checker.specs.declared.refusal.CheckErr.{CheckErr}
use Rattle.cert_checker.specs.declared.refusal.CheckErr.TheVariants.{Refused, NoMemory}
use Rattle.cert_checker.specs.declared.checking.Findings.{Findings}
use Rattle.cert_checker.specs.declared.checking.Tried.TheVariants.{Lasting}
use Rattle.cert_checker.specs.Refusals.{refused, first_of, low_refusal, dead_refusal, line_count, FindsNext, IsTreeRefusal, last_refusal}
use Rattle.cert_checker.specs.Carriable.{IsRuleRefusal, IsCarryRefusal, IsFirstCarryRefusal, IsCarriableText, CarriableAnswers, IsNoCarriableText, RefusesUncarriable}
use Rattle.cert_checker.specs.inside.Findings.{AreFound, IsFirstLasting, TellsLasting, TellsRefusal}
use Rattle.cert_checker.proofs.ValidLaws.{first_none, none_first, are_sound, no_sign, value_met, met_value}
use Rattle.cert_checker.proofs.CheckLaws.{bound_right, right_bound, not_both, same_cert}
use Rattle.cert_checker.proofs.OneRefusal.{one_tree, one_refusal_by}

-- ---- trees

-- what a leaf's signs and rows are, where its signs are right
signed_sound : (road : Road) (box : BoxRange) (mults : List (ℕ × ℤ)) → AreMultipliersBehind (road_row_count road) 0 mults → AreSigned road box mults → AreSound road box mults
signed_sound road box mults m h = record {
  on_rows = subst (λ n. AreMultipliersBehind n 0 mults) (sym (box_rows road box)) m;
  right_signs = h;
}

low_signed : (road : Road) (box : BoxRange) (line : ℕ) (scale : ℤ) (mults : List (ℕ × ℤ)) → AreMultipliersBehind (road_row_count road) 0 mults → None ≡ low_refusal (box_program road box) None line scale mults → AreSigned road box mults
unfolding low_refusal
low_signed road box line scale mults m e = (are_sound road box line mults m (first_none _ _ e).0).right_signs

dead_proving : (road : Road) (box : BoxRange) (line : ℕ) (mults : List (ℕ × ℤ)) → AreMultipliersBehind (road_row_count road) 0 mults → None ≡ dead_refusal (box_program road box) line mults → AreSigned road box mults × (pos 0 <ℤ told_value (box_program road box) (pos 0) mults)
unfolding dead_refusal
dead_proving road box line mults m e =
    let parts = first_none _ _ e in
    ((are_sound road box line mults m parts.0).right_signs, value_met line (told_value (box_program road box) (pos 0) mults) parts.1)

-- a tree in which nothing is refused without a bound has fitting splits and proving leaves
tree_lasts : (road : Road) (levels : ℕ) (tree : BoxTree) (box : BoxRange) (line : ℕ) → IsSpelledTree (road_row_count road) levels tree → IsTreeRefusal road None tree box line None → SplitsFit road tree box × HasProvingLeaves road tree box
tree_lasts road zero tree box line t r = absurd t
tree_lasts road (suc levels) (low scale mults cause) box line t r = (tt, low_signed road box line scale mults t.1 r)
tree_lasts road (suc levels) (dead mults) box line t r = (tt, dead_proving road box line mults t r)
tree_lasts road (suc levels) (fork split first second) box line t (inl r) = let e = r.1 in cc
tree_lasts road (suc levels) (fork split first second) box line t (inr r) =
    let parts = both r.1.0 r.1.1.0 r.1.1.1 in
    let one = tree_lasts road levels first (first_part box split) (line + 1) t.1 parts.0 in
    let other = tree_lasts road levels second (second_part box split) (line + 1 + line_count first) t.2 parts.1 in
    ((r.0, one.0, other.0), (one.1, other.1))
  where
    both : (sooner : Option Refusal) → IsTreeRefusal road None first (first_part box split) (line + 1) sooner → FindsNext sooner (IsTreeRefusal road None second (second_part box split) (line + 1 + line_count first) None) None → IsTreeRefusal road None first (first_part box split) (line + 1) None × IsTreeRefusal road None second (second_part box split) (line + 1 + line_count first) None
    both None f g = (f, g)
    both (Some refusal) f g = cc

-- in a tree with fitting splits and proving leaves nothing is refused without a bound
lasting_unrefused : (road : Road) (levels : ℕ) (tree : BoxTree) (box : BoxRange) (line : ℕ) (found : Option Refusal) → IsSpelledTree (road_row_count road) levels tree → SplitsFit road tree box → HasProvingLeaves road tree box → IsTreeRefusal road None tree box line found → found ≡ None
unfolding low_refusal dead_refusal
lasting_unrefused road zero tree box line found t s h r = absurd t
lasting_unrefused road (suc levels) (low scale mults cause) box line found t s h r =
    r ∙ none_first _ _ (no_sign road box line mults (signed_sound road box mults t.1 h)) refl
lasting_unrefused road (suc levels) (dead mults) box line found t s h r =
    r ∙ none_first _ _ (no_sign road box line mults (signed_sound road box mults t h.0)) (met_value line (told_value (box_program road box) (pos 0) mults) h.1)
lasting_unrefused road (suc levels) (fork split first second) box line found t s h (inl r) = absurd (r.0 s.0)
lasting_unrefused road (suc levels) (fork split first second) box line found t s h (inr r) =
    let one = lasting_unrefused road levels first (first_part box split) (line + 1) r.1.0 t.1 s.1 h.0 r.1.1.0 in
    let next = subst (λ o. FindsNext o (IsTreeRefusal road None second (second_part box split) (line + 1 + line_count first) found) found) one r.1.1.1 in
    lasting_unrefused road levels second (second_part box split) (line + 1 + line_count first) found t.2 s.2 h.1 next

-- ---- plans and certificates

rule_right : (road : Road) (planned : Option PricedPlan) → IsRuleRefusal road planned None → IsPlanAdmissible road planned
rule_right road None r = tt
rule_right road (Some priced) (inl r) = let e = r.1 in cc
rule_right road (Some priced) (inr r) = r.0

right_rule : (road : Road) (planned : Option PricedPlan) (found : Option Refusal) → IsPlanAdmissible road planned → IsRuleRefusal road planned found → found ≡ None
right_rule road None found h r = r
right_rule road (Some priced) found h (inl r) = absurd (r.0 h)
right_rule road (Some priced) found h (inr r) = r.1

carriable_of : (road : Road) (bytes : List ℕ) (cert : Certificate) (line : ℕ) → IsCertText road bytes cert → IsCarryRefusal road cert line None → IsCarriable road cert
carriable_of road bytes cert line text r =
    let first = first_none r.plan (first_of r.tree (last_refusal cert.bound (has_low cert.tree) line)) r.found_is in
    let next = first_none r.tree (last_refusal cert.bound (has_low cert.tree) line) (sym first.1) in
    let lasts = tree_lasts road most_levels cert.tree (root_box road) (line + 1) text.has_text.tree (subst (IsTreeRefusal road None cert.tree (root_box road) (line + 1)) next.0 r.is_tree) in
    record {
      planned = rule_right road cert.planned (subst (IsRuleRefusal road cert.planned) first.0 r.is_plan);
      bound = bound_right cert.bound (has_low cert.tree) line next.1;
      splits = lasts.0;
      proving = lasts.1;
    }

unrefused : (road : Road) (bytes : List ℕ) (cert : Certificate) (line : ℕ) (found : Option Refusal) → IsCertText road bytes cert → IsCarriable road cert → IsCarryRefusal road cert line found → found ≡ None
unrefused road bytes cert line found text v r =
    r.found_is
    ∙ none_first r.plan _ (right_rule road cert.planned r.plan v.planned r.is_plan)
    (none_first r.tree _ (lasting_unrefused road most_levels cert.tree (root_box road) (line + 1) r.tree text.has_text.tree v.splits v.proving r.is_tree) (right_bound cert.bound (has_low cert.tree) line v.bound))

-- ---- one first refusal

one_rule : (road : Road) (planned : Option PricedPlan) (a b : Option Refusal) → IsRuleRefusal road planned a → IsRuleRefusal road planned b → a ≡ b
one_rule road None a b p q = p ∙ sym q
one_rule road (Some priced) a b (inl p) (inl q) = p.1 ∙ sym q.1
one_rule road (Some priced) a b (inl p) (inr q) = absurd (p.0 q.0)
one_rule road (Some priced) a b (inr p) (inl q) = absurd (q.0 p.0)
one_rule road (Some priced) a b (inr p) (inr q) = p.1 ∙ sym q.1

one_carry : (road : Road) (cert : Certificate) (line : ℕ) (a b : Option Refusal) → IsCarryRefusal road cert line a → IsCarryRefusal road cert line b → a ≡ b
one_carry road cert line a b p q =
    let plan = one_rule road cert.planned p.plan q.plan p.is_plan q.is_plan in
    let tree = one_tree road None cert.tree (root_box road) (line + 1) p.tree q.tree p.is_tree q.is_tree in
    p.found_is ∙ ap₂ (λ x y. first_of x (first_of y (last_refusal cert.bound (has_low cert.tree) line))) plan tree ∙ sym q.found_is

-- bytes have one first refusal but for their stated costs
pub one_carry_refusal : (road : Road) → IsAccepted road → (bytes : List ℕ) (a b : Option Refusal) → IsFirstCarryRefusal road bytes a → IsFirstCarryRefusal road bytes b → a ≡ b
one_carry_refusal road acc bytes a b p q = one_refusal_by (IsCarryRefusal road) (one_carry road) road acc bytes a b p q

-- ---- answers

refusal_of : (road : Road) (bytes : List ℕ) (findings : Findings) (found : Option Refusal) (f : AreFound road bytes Lasting findings) → IsFirstLasting road findings found → IsCarryRefusal road f.cert findings.bound_line found
refusal_of road bytes findings found f r = record {
  plan = r.plan;
  tree = findings.walked.found;
  is_plan = subst (λ p. IsRuleRefusal road p r.plan) f.planned_is r.is_plan;
  is_tree = f.tree;
  found_is = r.found_is ∙ ap₂ (λ b l. first_of r.plan (first_of findings.walked.found (last_refusal b l findings.bound_line))) f.bound_is f.low_is;
}

first_carry : (road : Road) → IsAccepted road → (bytes : List ℕ) (findings : Findings) (found : Option Refusal) → length bytes ≤ longest_text → AreFound road bytes Lasting findings → IsFirstLasting road findings found → IsFirstCarryRefusal road bytes found
first_carry road a bytes findings found short f r =
    inr (inr (
      short,
      record {
        cert = f.cert;
        text = cert_of_text-found road a.rows bytes f.cert f.read;
        line = findings.bound_line;
        bound_line = f.bound_line;
        refusal = refusal_of road bytes findings found f r;
      },
    ))

pub tells_lasting : (road : Road) → IsAccepted road → (bytes : List ℕ) (findings : Findings) (found : Option Refusal) (result : Result ⊤ CheckErr) → length bytes ≤ longest_text → AreFound road bytes Lasting findings → IsFirstLasting road findings found → TellsRefusal found result → TellsLasting road bytes result
tells_lasting road a bytes findings None (Ok nothing) short f r b = first_carry road a bytes findings None short f r
tells_lasting road a bytes findings None (Err error) short f r b = absurd b
tells_lasting road a bytes findings (Some refusal) (Ok nothing) short f r b = absurd b
tells_lasting road a bytes findings (Some refusal) (Err NoMemory) short f r b = tt
tells_lasting road a bytes findings (Some refusal) (Err (Refused rule line)) short f r b =
    let is : Some refusal ≡ refused rule line = ap₂ refused (sym b.0) (sym b.1) in
    subst (IsFirstCarryRefusal road bytes) is (first_carry road a bytes findings (Some refusal) short f r)

-- bytes in which nothing is refused are the text of a certificate whose bound can be carried
carriable_text : (road : Road) → IsAccepted road → (bytes : List ℕ) (cert : Certificate) → IsCertText road bytes cert → IsFirstCarryRefusal road bytes None → IsCarriableText road bytes cert
carriable_text road a bytes cert text (inl r) = let e = r.1 in cc
carriable_text road a bytes cert text (inr (inl r)) = let e = r.1.1.1 in cc
carriable_text road a bytes cert text (inr (inr r)) =
    let t = r.1 in
    let same = same_cert t.cert cert (cert_of_text road bytes) (cert_of_text-exact road a.rows bytes t.cert t.text) (cert_of_text-exact road a.rows bytes cert text) in
    record {
      short = r.0;
      text = text;
      carriable = subst (IsCarriable road) same (carriable_of road bytes t.cert t.line t.text t.refusal);
    }

pub read_carriable : (road : Road) → IsAccepted road → (bytes : List ℕ) (cert : Cert) → IsFirstCarryRefusal road bytes None → IsTextOf road bytes cert → CarriableAnswers road bytes (Ok cert)
read_carriable road a bytes cert none text =
    let whole = carriable_text road a bytes (certificate_of cert) (record { has_text = text.spelled.has_text; is_text = text.is_text }) none in
    record { short = whole.short; text = text; carriable = whole.carriable }

short_of : (road : Road) (bytes : List ℕ) → IsFirstCarryRefusal road bytes None → length bytes ≤ longest_text
short_of road bytes (inl r) = let e = r.1 in cc
short_of road bytes (inr (inl r)) = r.0
short_of road bytes (inr (inr r)) = r.0

told_line : (line : ℕ) (due : Option ℕ) (error : TextErr) → error ≡ Bad line → IfBad {A = Cert} (Err error) (λ l. due ≡ Some l) → due ≡ Some line
told_line line due (Bad l) is h = let same : l ≡ line = cc in h ∙ ap (λ n. Some n) same
told_line line due NoRoom is h = cc

pub read_refused : (road : Road) (bytes : List ℕ) (line : ℕ) (error : TextErr) → IsFirstCarryRefusal road bytes None → error ≡ Bad line → IfBad {A = Cert} (Err error) (λ l. refused_line road bytes ≡ Some l) → CarriableAnswers road bytes (Err (Refused CertRule.C2 line))
read_refused road bytes line error none is h = inr (inl (short_of road bytes none, (line, (told_line line (refused_line road bytes) error is h, refl))))

no_carriable : (road : Road) → IsAccepted road → (bytes : List ℕ) (rule : CertRule) (line : ℕ) → IsFirstCarryRefusal road bytes (refused rule line) → IsNoCarriableText road bytes
no_carriable road a bytes rule line (inl r) = λ cert v. let short = v.short in let long = r.0 in omega (arith, short, long)
no_carriable road a bytes rule line (inr (inl r)) = λ cert v.
    not_both cert r.1.0 (cert_of_text road bytes) (refused_line-is road bytes r.1.0 r.1.1.0) (cert_of_text-exact road a.rows bytes cert v.text)
no_carriable road a bytes rule line (inr (inr r)) = λ cert v.
    let t = r.1 in
    let same = same_cert cert t.cert (cert_of_text road bytes) (cert_of_text-exact road a.rows bytes cert v.text) (cert_of_text-exact road a.rows bytes t.cert t.text) in
    let none : refused rule line ≡ None = unrefused road bytes t.cert t.line (refused rule line) t.text (subst (IsCarriable road) same v.carriable) t.refusal in
    cc

pub refuses_uncarriable : (road : Road) → IsAccepted road → (bytes : List ℕ) (result : Result Cert CheckErr) → CarriableAnswers road bytes result → RefusesUncarriable road bytes result
refuses_uncarriable road a bytes (Ok cert) h = tt
refuses_uncarriable road a bytes (Err (Refused rule line)) h = no_carriable road a bytes rule line h
refuses_uncarriable road a bytes (Err NoMemory) h = tt
