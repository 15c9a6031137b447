-- Bytes have one first refusal.
use Rattle.std.proofs.Common.{◌≡◌, inl, inr, ℕ, suc, ◌+◌, ◌-◌, Option, Some, None, Result, Ok, Err, List, [], ◌∷◌, ◌++◌, length, drop, refl, sym, ap, ap₂, subst, ◌∙◌, arith}
use Rattle.numbers.specs.Fractions.{Fraction}
use Rattle.text_parts.specs.Lines.{TextLine, last_line, lines_of_parts, lines_of, bytes_of, text_of, line_feed}
use Rattle.text_parts.specs.Words.{parts_between}
use Rattle.road_types.specs.declared.road.Road.{Road}
use Rattle.road_types.specs.Accepted.{IsAccepted}
use Rattle.milp_builder.specs.Boxes.{root_box}
use Rattle.milp_builder.specs.Parts.{first_part, second_part}
use Rattle.milp_builder.specs.declared.boxes.BoxRange.{BoxRange}
use Rattle.cert_tree.specs.Trees.{BoxTree, low, dead, fork}
use Rattle.cert_tree.specs.Soundness.{has_low}
use Rattle.cert_text.specs.declared.heading.PricedPlan.{PricedPlan}
use Rattle.cert_text.specs.CertText.{Certificate}
use Rattle.cert_text.specs.inside.CertReading.{cert_of_text}
use Rattle.cert_text.proofs.CertLaws.{cert_of_text-exact}
use Rattle.cert_text.proofs.MisfitLaws.{refused_line-is}
use Rattle.cert_text.specs.Misfits.{refused_line}
use Rattle.cert_checker.specs.declared.refusal.Refusal.{Refusal}
use Rattle.cert_checker.specs.Refusals.{refused, first_of, line_count, FindsNext, IsTreeRefusal, IsPlanRefusal, last_refusal, IsCertRefusal, EndsAtLine, stated_text, IsTextRefusalBy, IsFirstRefusalBy, IsFirstRefusal}

-- ---- so many first lines with a text are of one number

-- the bytes of every line are some
abbrev HaveBytes : List TextLine → Type 0
HaveBytes [] = Unit {0}
HaveBytes (line ∷ lines) = (bytes_of line ≡ [] → ⊥) × HaveBytes lines

no_end : (xs ys : List ℕ) (b : ℕ) → xs ++ (b ∷ ys) ≡ [] → ⊥
no_end [] ys b e = cc
no_end (x ∷ xs) ys b e = cc

have_last : (at : ℕ) (part : List ℕ) → HaveBytes (last_line at part)
have_last at [] = tt
have_last at (b ∷ bs) = (λ e. cc, tt)

have_parts : (at : ℕ) (parts : List (List ℕ)) → HaveBytes (lines_of_parts at parts)
have_parts at [] = tt
have_parts at (part ∷ []) = have_last at part
have_parts at (part ∷ next ∷ parts) = (λ e. no_end part [] line_feed e, have_parts (at + length part + 1) (next ∷ parts))

left_none : (xs ys : List ℕ) → xs ++ ys ≡ [] → xs ≡ []
left_none [] ys e = refl
left_none (x ∷ xs) ys e = cc

cancel : (xs ys zs : List ℕ) → xs ++ ys ≡ xs ++ zs → ys ≡ zs
cancel [] ys zs e = e
cancel (x ∷ xs) ys zs e = cancel xs ys zs (ap (drop 1) e)

abbrev head_of : TextLine → List TextLine → TextLine
head_of other [] = other
head_of other (line ∷ lines) = line

one_front : (all xs ys vs ws : List TextLine) → HaveBytes all → all ≡ xs ++ ys → all ≡ vs ++ ws → text_of xs ≡ text_of vs → length xs ≡ length vs
one_front all [] ys [] ws h p q t = refl
one_front [] (x ∷ xs) ys vs ws h p q t = cc
one_front [] [] ys (v ∷ vs) ws h p q t = cc
one_front (a ∷ all) [] ys (v ∷ vs) ws h p q t =
    let same : a ≡ v = ap (head_of a) q in
    absurd (h.0 (ap bytes_of same ∙ left_none (bytes_of v) (text_of vs) (sym t)))
one_front (a ∷ all) (x ∷ xs) ys [] ws h p q t =
    let same : a ≡ x = ap (head_of a) p in
    absurd (h.0 (ap bytes_of same ∙ left_none (bytes_of x) (text_of xs) t))
one_front (a ∷ all) (x ∷ xs) ys (v ∷ vs) ws h p q t =
    let here : a ≡ x = ap (head_of a) p in
    let there : a ≡ v = ap (head_of a) q in
    let rest = cancel (bytes_of x) (text_of xs) (text_of vs) (t ∙ ap (λ l. bytes_of l ++ text_of vs) (sym there ∙ here)) in
    ap suc (one_front all xs ys vs ws h.1 (ap (drop 1) p) (ap (drop 1) q) rest)

one_line : (bytes text : List ℕ) (l m : ℕ) → EndsAtLine bytes text l → EndsAtLine bytes text m → l ≡ m
one_line bytes text l m a b =
    a.count ∙ one_front (lines_of 0 bytes) a.lines a.others b.lines b.others (have_parts 0 (parts_between line_feed bytes)) a.lines_are b.lines_are (a.text_is ∙ sym b.text_is) ∙ sym b.count

-- ---- trees, plans, certificates

next_same : (sooner : Option Refusal) (A B : Type 0) (a b : Option Refusal) → (A → B → a ≡ b) → FindsNext sooner A a → FindsNext sooner B b → a ≡ b
next_same None A B a b same p q = same p q
next_same (Some refusal) A B a b same p q = p ∙ sym q

pub one_tree : (road : Road) (bound : Option Fraction) (tree : BoxTree) (box : BoxRange) (line : ℕ) (a b : Option Refusal) → IsTreeRefusal road bound tree box line a → IsTreeRefusal road bound tree box line b → a ≡ b
one_tree road bound (low scale mults cause) box line a b p q = p ∙ sym q
one_tree road bound (dead mults) box line a b p q = p ∙ sym q
one_tree road bound (fork split first second) box line a b (inl p) (inl q) = p.1 ∙ sym q.1
one_tree road bound (fork split first second) box line a b (inl p) (inr q) = absurd (p.0 q.0)
one_tree road bound (fork split first second) box line a b (inr p) (inl q) = absurd (q.0 p.0)
one_tree road bound (fork split first second) box line a b (inr p) (inr q) =
    let at = line + 1 + line_count first in
    let sooner = one_tree road bound first (first_part box split) (line + 1) q.1.0 p.1.0 q.1.1.0 p.1.1.0 in
    next_same p.1.0 (IsTreeRefusal road bound second (second_part box split) at a) (IsTreeRefusal road bound second (second_part box split) at b) a b
    (λ x y. one_tree road bound second (second_part box split) at a b x y) p.1.1.1
    (subst (λ s. FindsNext s (IsTreeRefusal road bound second (second_part box split) at b) b) sooner q.1.1.1)

one_plan : (road : Road) (line : ℕ) (planned : Option PricedPlan) (a b : Option Refusal) → IsPlanRefusal road line planned a → IsPlanRefusal road line planned b → a ≡ b
one_plan road line None a b p q = p ∙ sym q
one_plan road line (Some priced) a b (inl p) (inl q) = p.1 ∙ sym q.1
one_plan road line (Some priced) a b (inl p) (inr (inl q)) = absurd (p.0 q.0)
one_plan road line (Some priced) a b (inl p) (inr (inr q)) = absurd (p.0 q.0)
one_plan road line (Some priced) a b (inr (inl p)) (inl q) = absurd (q.0 p.0)
one_plan road line (Some priced) a b (inr (inr p)) (inl q) = absurd (q.0 p.0)
one_plan road line (Some priced) a b (inr (inl p)) (inr (inl q)) = p.1.1 ∙ sym q.1.1
one_plan road line (Some priced) a b (inr (inl p)) (inr (inr q)) = absurd (p.1.0 q.1.0)
one_plan road line (Some priced) a b (inr (inr p)) (inr (inl q)) = absurd (q.1.0 p.1.0)
one_plan road line (Some priced) a b (inr (inr p)) (inr (inr q)) = p.1.1 ∙ sym q.1.1

one_cert : (road : Road) (cert : Certificate) (line : ℕ) (a b : Option Refusal) → IsCertRefusal road cert line a → IsCertRefusal road cert line b → a ≡ b
one_cert road cert line a b p q =
    let plan = one_plan road (line - 1) cert.planned p.plan q.plan p.is_plan q.is_plan in
    let tree = one_tree road cert.bound cert.tree (root_box road) (line + 1) p.tree q.tree p.is_tree q.is_tree in
    p.found_is ∙ ap₂ (λ x y. first_of x (first_of y (last_refusal cert.bound (has_low cert.tree) line))) plan tree ∙ sym q.found_is

same_ok : (a b : Certificate) (due : Result Certificate ℕ) → due ≡ Ok a → due ≡ Ok b → a ≡ b
same_ok a b due e f = cc

same_line : (a b : ℕ) (line : Option ℕ) → line ≡ Some a → line ≡ Some b → a ≡ b
same_line a b line e f = cc

not_both : (cert : Certificate) (line : ℕ) (due : Result Certificate ℕ) → due ≡ Err line → due ≡ Ok cert → ⊥
not_both cert line due e f = cc

-- a certificate has one first refusal
abbrev pub OneOf : (Certificate → ℕ → Option Refusal → Type 0) → Type 0
OneOf refuses = (cert : Certificate) (line : ℕ) (a b : Option Refusal) → refuses cert line a → refuses cert line b → a ≡ b

one_text : (refuses : Certificate → ℕ → Option Refusal → Type 0) → OneOf refuses → (road : Road) → IsAccepted road → (bytes : List ℕ) (a b : Option Refusal) → IsTextRefusalBy refuses road bytes a → IsTextRefusalBy refuses road bytes b → a ≡ b
one_text refuses one road acc bytes a b p q =
    let same = same_ok q.cert p.cert (cert_of_text road bytes) (cert_of_text-exact road acc.rows bytes q.cert q.text) (cert_of_text-exact road acc.rows bytes p.cert p.text) in
    let ends = subst (λ c. EndsAtLine bytes (stated_text road c) q.line) same q.bound_line in
    let line = one_line bytes (stated_text road p.cert) q.line p.line ends p.bound_line in
    one p.cert p.line a b p.refusal
    (subst (λ l. refuses p.cert l b) line (subst (λ c. refuses c q.line b) same q.refusal))

-- bytes have one first refusal where a certificate has one
pub one_refusal_by : (refuses : Certificate → ℕ → Option Refusal → Type 0) → OneOf refuses → (road : Road) → IsAccepted road → (bytes : List ℕ) (a b : Option Refusal) → IsFirstRefusalBy refuses road bytes a → IsFirstRefusalBy refuses road bytes b → a ≡ b
one_refusal_by refuses one road acc bytes a b (inl p) (inl q) = p.1 ∙ sym q.1
one_refusal_by refuses one road acc bytes a b (inl p) (inr (inl q)) = let long = p.0 in let short = q.0 in absurd (omega (arith, long, short))
one_refusal_by refuses one road acc bytes a b (inl p) (inr (inr q)) = let long = p.0 in let short = q.0 in absurd (omega (arith, long, short))
one_refusal_by refuses one road acc bytes a b (inr (inl p)) (inl q) = let long = q.0 in let short = p.0 in absurd (omega (arith, long, short))
one_refusal_by refuses one road acc bytes a b (inr (inr p)) (inl q) = let long = q.0 in let short = p.0 in absurd (omega (arith, long, short))
one_refusal_by refuses one road acc bytes a b (inr (inl p)) (inr (inl q)) =
    p.1.1.1 ∙ ap (refused _) (same_line p.1.0 q.1.0 (refused_line road bytes) p.1.1.0 q.1.1.0) ∙ sym q.1.1.1
one_refusal_by refuses one road acc bytes a b (inr (inl p)) (inr (inr q)) =
    absurd (not_both q.1.cert p.1.0 (cert_of_text road bytes) (refused_line-is road bytes p.1.0 p.1.1.0) (cert_of_text-exact road acc.rows bytes q.1.cert q.1.text))
one_refusal_by refuses one road acc bytes a b (inr (inr p)) (inr (inl q)) =
    absurd (not_both p.1.cert q.1.0 (cert_of_text road bytes) (refused_line-is road bytes q.1.0 q.1.1.0) (cert_of_text-exact road acc.rows bytes p.1.cert p.1.text))
one_refusal_by refuses one road acc bytes a b (inr (inr p)) (inr (inr q)) = one_text refuses one road acc bytes a b p.1 q.1

-- bytes have one first refusal
pub one_refusal : (road : Road) → IsAccepted road → (bytes : List ℕ) (a b : Option Refusal) → IsFirstRefusal road bytes a → IsFirstRefusal road bytes b → a ≡ b
one_refusal road acc bytes a b p q = one_refusal_by (IsCertRefusal road) (one_cert road) road acc bytes a b p q
