-- What the first refusal says of the bytes, and what an answer proves.
use Rattle.std.proofs.Common.{◌≡◌, inl, inr, ℕ, ◌+◌, ◌-◌, ◌≤◌, Bool, true, false, Option, Some, None, IfSome, IfOk, Result, Ok, Err, List, length, refl, sym, ap, ap₂, subst, ◌∙◌, arith}
use Rattle.numbers.specs.Fractions.{Fraction}
use Rattle.road_types.specs.declared.road.Road.{Road}
use Rattle.road_types.specs.Accepted.{IsAccepted}
use Rattle.milp_builder.specs.Boxes.{root_box}
use Rattle.cert_tree.specs.Trees.{BoxTree}
use Rattle.cert_tree.specs.Soundness.{has_low}
use Rattle.cert_text.specs.declared.heading.PricedPlan.{PricedPlan}
use Rattle.cert_text.specs.NodeText.{most_levels}
use Rattle.cert_text.specs.CertText.{Certificate, IsCertText, IsPricedOrNone}
use Rattle.cert_text.specs.inside.CertReading.{cert_of_text}
use Rattle.cert_text.proofs.CertLaws.{cert_of_text-found, cert_of_text-exact}
use Rattle.cert_text.proofs.MisfitLaws.{refused_line-is}
use Rattle.cert_text.proofs.ValidLaws.{valid_unbeaten}
use Rattle.cert_checker.specs.declared.refusal.Refusal.{Refusal}
use Rattle.cert_checker.specs.declared.refusal.CertRule.{CertRule}
use Rattle.cert_checker.specs.declared.refusal.Checked.{Checked}
use Rattle.cert_checker.specs.declared.refusal.CheckErr.{CheckErr}
use Rattle.cert_checker.specs.declared.refusal.CheckErr.TheVariants.{Refused, NoMemory}
use Rattle.cert_checker.specs.declared.checking.Findings.{Findings}
use Rattle.cert_checker.specs.declared.checking.Tried.{Tried}
use Rattle.cert_checker.specs.declared.checking.Tried.TheVariants.{Everything}
use Rattle.cert_checker.specs.Refusals.{refused, first_of, IsTreeRefusal, IsPlanRefusal, last_refusal, IsCertRefusal, IsFirstRefusal, Answers, IsNoValidText, RefusesRightly}
use Rattle.cert_text.specs.Validity.{IsPlannedRight, IsBoundRight, IsValid, longest_text, IsAttained, IsUnbeaten, stated_cost}
use Rattle.cert_checker.specs.Answered.{IsProved, IsAnswerOf}
use Rattle.cert_checker.specs.inside.Findings.{AreFound, IsFirstOfFindings, AnswersBy}
use Rattle.cert_checker.proofs.ValidLaws.{first_none, none_first, StatesLow, sound_tree, sound_unrefused}

-- ---- the parts of a certificate

plan_right : (road : Road) (line : ℕ) (planned : Option PricedPlan) → IsPlanRefusal road line planned None → IsPlannedRight road planned
plan_right road line None r = tt
plan_right road line (Some priced) (inl r) = let e = r.1 in cc
plan_right road line (Some priced) (inr (inl r)) = let e = r.1.1 in cc
plan_right road line (Some priced) (inr (inr r)) = (r.0, r.1.0)

right_plan : (road : Road) (line : ℕ) (planned : Option PricedPlan) (found : Option Refusal) → IsPlannedRight road planned → IsPlanRefusal road line planned found → found ≡ None
right_plan road line None found h r = r
right_plan road line (Some priced) found h (inl r) = absurd (r.0 h.0)
right_plan road line (Some priced) found h (inr (inl r)) = absurd (r.1.0 h.1)
right_plan road line (Some priced) found h (inr (inr r)) = r.1.1

pub bound_right : (bound : Option Fraction) (low : Bool) (line : ℕ) → last_refusal bound low line ≡ None → IsBoundRight bound low
bound_right None true line e = cc
bound_right None false line e = refl
bound_right (Some bound) true line e = refl
bound_right (Some bound) false line e = cc

pub right_bound : (bound : Option Fraction) (low : Bool) (line : ℕ) → IsBoundRight bound low → last_refusal bound low line ≡ None
right_bound None true line h = cc
right_bound None false line h = refl
right_bound (Some bound) true line h = refl
right_bound (Some bound) false line h = cc

states_low : (bound : Option Fraction) (tree : BoxTree) → IsBoundRight bound (has_low tree) → StatesLow bound tree
states_low None tree h = λ none. h
states_low (Some bound) tree h = λ none. cc

valid_of : (road : Road) (bytes : List ℕ) (cert : Certificate) (line : ℕ) → IsCertText road bytes cert → IsCertRefusal road cert line None → IsValid road cert
valid_of road bytes cert line text r =
    let first = first_none r.plan (first_of r.tree (last_refusal cert.bound (has_low cert.tree) line)) r.found_is in
    let next = first_none r.tree (last_refusal cert.bound (has_low cert.tree) line) (sym first.1) in
    let bound = bound_right cert.bound (has_low cert.tree) line next.1 in
    record {
      planned = plan_right road (line - 1) cert.planned (subst (IsPlanRefusal road (line - 1) cert.planned) first.0 r.is_plan);
      bound = bound;
      sound = sound_tree road cert.bound most_levels cert.tree (root_box road) (line + 1) text.has_text.tree (states_low cert.bound cert.tree bound)
          (subst (IsTreeRefusal road cert.bound cert.tree (root_box road) (line + 1)) next.0 r.is_tree);
    }

unrefused : (road : Road) (cert : Certificate) (line : ℕ) (found : Option Refusal) → IsValid road cert → IsCertRefusal road cert line found → found ≡ None
unrefused road cert line found v r =
    r.found_is
    ∙ none_first r.plan _ (right_plan road (line - 1) cert.planned r.plan v.planned r.is_plan)
    (none_first r.tree _ (sound_unrefused road cert.bound cert.tree (root_box road) (line + 1) r.tree v.sound r.is_tree) (right_bound cert.bound (has_low cert.tree) line v.bound))

-- ---- answers

pub planned_of : (road : Road) → IsAccepted road → (bytes : List ℕ) (tried : Tried) (findings : Findings) → AreFound road bytes tried findings → IsPricedOrNone road findings.heading.planned
planned_of road a bytes tried findings f =
    subst (IsPricedOrNone road) (sym f.planned_is) (cert_of_text-found road a.rows bytes f.cert f.read).has_text.planned

refusal_of : (road : Road) (bytes : List ℕ) (findings : Findings) (found : Option Refusal) (f : AreFound road bytes Everything findings) → IsFirstOfFindings road findings found → IsCertRefusal road f.cert findings.bound_line found
refusal_of road bytes findings found f r = record {
  plan = r.plan;
  tree = findings.walked.found;
  is_plan = subst (λ p. IsPlanRefusal road (findings.bound_line - 1) p r.plan) f.planned_is r.is_plan;
  is_tree = f.tree;
  found_is = r.found_is ∙ ap₂ (λ b l. first_of r.plan (first_of findings.walked.found (last_refusal b l findings.bound_line))) f.bound_is f.low_is;
}

pub concluded : (road : Road) → IsAccepted road → (bytes : List ℕ) (findings : Findings) (found : Option Refusal) (result : Result Checked CheckErr) → length bytes ≤ longest_text → AreFound road bytes Everything findings → IsFirstOfFindings road findings found → AnswersBy findings found result → Answers road bytes result
concluded road a bytes findings None (Ok checked) short f r b =
    let text = cert_of_text-found road a.rows bytes f.cert f.read in
    record {
      cert = f.cert;
      valid = record { short = short; text = text; valid = valid_of road bytes f.cert findings.bound_line text (refusal_of road bytes findings None f r) };
      cost_is = b.0 ∙ ap stated_cost f.planned_is;
      bound_is = b.1 ∙ f.bound_is;
    }
concluded road a bytes findings None (Err error) short f r b = absurd b
concluded road a bytes findings (Some refusal) (Ok checked) short f r b = absurd b
concluded road a bytes findings (Some refusal) (Err NoMemory) short f r b = tt
concluded road a bytes findings (Some refusal) (Err (Refused rule line)) short f r b =
    let is : Some refusal ≡ refused rule line = ap₂ refused (sym b.0) (sym b.1) in
    inr (inr (
      short,
      record {
        cert = f.cert;
        text = cert_of_text-found road a.rows bytes f.cert f.read;
        line = findings.bound_line;
        bound_line = f.bound_line;
        refusal = subst (IsCertRefusal road f.cert findings.bound_line) is (refusal_of road bytes findings (Some refusal) f r);
      },
    ))

pub not_both : (cert : Certificate) (line : ℕ) (due : Result Certificate ℕ) → due ≡ Err line → due ≡ Ok cert → ⊥
not_both cert line due e f = cc

pub same_cert : (a b : Certificate) (due : Result Certificate ℕ) → due ≡ Ok a → due ≡ Ok b → a ≡ b
same_cert a b due e f = cc

no_valid : (road : Road) → IsAccepted road → (bytes : List ℕ) (rule : CertRule) (line : ℕ) → IsFirstRefusal road bytes (refused rule line) → IsNoValidText road bytes
no_valid road a bytes rule line (inl r) = λ cert v. let short = v.short in let long = r.0 in omega (arith, short, long)
no_valid road a bytes rule line (inr (inl r)) = λ cert v.
    not_both cert r.1.0 (cert_of_text road bytes) (refused_line-is road bytes r.1.0 r.1.1.0) (cert_of_text-exact road a.rows bytes cert v.text)
no_valid road a bytes rule line (inr (inr r)) = λ cert v.
    let t = r.1 in
    let same = same_cert cert t.cert (cert_of_text road bytes) (cert_of_text-exact road a.rows bytes cert v.text) (cert_of_text-exact road a.rows bytes t.cert t.text) in
    let none : refused rule line ≡ None = unrefused road t.cert t.line (refused rule line) (subst (IsValid road) same v.valid) t.refusal in
    cc

pub refuses_rightly : (road : Road) → IsAccepted road → (bytes : List ℕ) (result : Result Checked CheckErr) → Answers road bytes result → RefusesRightly road bytes result
refuses_rightly road a bytes (Ok checked) h = tt
refuses_rightly road a bytes (Err (Refused rule line)) h = no_valid road a bytes rule line h
refuses_rightly road a bytes (Err NoMemory) h = tt

-- ---- what is proved

attained : (road : Road) (bytes : List ℕ) (cert : Certificate) (planned : Option PricedPlan) → IsCertText road bytes cert → cert.planned ≡ planned → IsPlannedRight road planned → IfSome (stated_cost planned) (IsAttained road bytes)
attained road bytes cert None text is h = tt
attained road bytes cert (Some priced) text is h = record {
  priced = priced;
  states = record { cert = cert; text = text; planned = is };
  admissible = h.0;
  cost_is = refl;
  value = h.1;
}

pub is_proved : (road : Road) → IsAccepted road → (bytes : List ℕ) (checked : Checked) → IsAnswerOf road bytes checked → IsProved road bytes checked
is_proved road a bytes checked h =
    let valid = h.valid.valid in
    let never = valid_unbeaten road a h.cert h.valid.text.has_text.bound valid in
    record {
      cost = subst (λ cost. IfSome cost (IsAttained road bytes)) (sym h.cost_is) (attained road bytes h.cert h.cert.planned h.valid.text refl valid.planned);
      bound = subst (IsUnbeaten road) (sym h.bound_is) never;
    }

pub proved : (road : Road) → IsAccepted road → (bytes : List ℕ) (result : Result Checked CheckErr) → Answers road bytes result → IfOk result (IsProved road bytes)
proved road a bytes (Ok checked) h = is_proved road a bytes checked h
proved road a bytes (Err error) h = tt
