-- Turned numbers and the direction in which an eligible column moves its row.
use Rattle.std.proofs.Common.{◌≡◌, ◌⊎◌, inl, inr, arith, ap, sym, ◌∙◌, ⊎_elim, true, false, Bool, cond}
use Rattle.std.specs.Prelude.{ℤ, pos, neg_ℤ, ◌*ℤ◌, ◌≤ℤ◌, ◌<ℤ◌, ◌≢◌, int_lt, unsigned_abs}
use Rattle.std.proofs.lemmas.Int.{ints}
use Rattle.algebra.proofs.Products.{int_mul_comm, int_neg_mul}
use Rattle.algebra.proofs.Order.{int_lt_or_le}
use Rattle.tableau.specs.Signs.{IsSameSign, IsOppositeSign, turned}
use Rattle.tableau.specs.Exchanges.{IsToward}
use Rattle.tableau.specs.Ends.{turned_by}
use Rattle.tableau.specs.declared.bound.Bound.{Bound}
use Rattle.tableau.specs.declared.bound.Bound.TheVariants.{Lower, Upper}

pub zero_or_not : (z : ℤ) → (z ≡ pos 0) ⊎ (z ≢ pos 0)
zero_or_not z = grind (arith, ints)

pub above_or_below : (z : ℤ) → z ≢ pos 0 → (pos 0 <ℤ z) ⊎ (z <ℤ pos 0)
above_or_below z some = grind (arith, ints)

lt_below : (p : ℤ) → p <ℤ pos 0 → int_lt p (pos 0) ≡ true
lt_below p h = grind (arith, ints)

lt_above : (p : ℤ) → pos 0 ≤ℤ p → int_lt p (pos 0) ≡ false
lt_above p h = grind (arith, ints)

pub turned_above : (p z : ℤ) → pos 0 ≤ℤ p → turned p z ≡ z
turned_above p z h = ap (λ b. cond b (neg_ℤ z) z) (lt_above p h)

pub turned_below : (p z : ℤ) → p <ℤ pos 0 → turned p z ≡ neg_ℤ z
turned_below p z h = ap (λ b. cond b (neg_ℤ z) z) (lt_below p h)

-- how z is turned by p: as p is not below 0, or below
pub turned_cases : (p z : ℤ) → ((pos 0 ≤ℤ p) × (turned p z ≡ z)) ⊎ ((p <ℤ pos 0) × (turned p z ≡ neg_ℤ z))
turned_cases p z = ⊎_elim
    (λ (l : p <ℤ pos 0). inr (l, turned_below p z l))
    (λ (l : pos 0 ≤ℤ p). inl (l, turned_above p z l))
    (int_lt_or_le p (pos 0))

-- turned by a number's own sign, a number is its magnitude
pub turned_self : (p : ℤ) → turned p p ≡ pos (unsigned_abs p)
turned_self p = elim (turned_cases p p) [ inl h ↦ h.1 ∙ (let l = h.0 in omega (arith, ints)) | inr h ↦ h.1 ∙ (let l = h.0 in omega (arith, ints)) ]

-- a number and its magnitude
pub size_above : (z : ℤ) → pos 0 ≤ℤ z → z ≡ pos (unsigned_abs z)
size_above z h = omega (arith, ints)

pub size_below : (z : ℤ) → z ≤ℤ pos 0 → z ≡ neg_ℤ (pos (unsigned_abs z))
size_below z h = omega (arith, ints)

pub neg_size_above : (z : ℤ) → pos 0 ≤ℤ z → neg_ℤ z ≡ neg_ℤ (pos (unsigned_abs z))
neg_size_above z h = omega (arith, ints)

pub neg_size_below : (z : ℤ) → z ≤ℤ pos 0 → neg_ℤ z ≡ pos (unsigned_abs z)
neg_size_below z h = omega (arith, ints)

-- z turned by p, times p, is z times the magnitude of p
pub turned_times : (p z : ℤ) → turned p z *ℤ p ≡ pos (unsigned_abs p) *ℤ z
turned_times p z = elim (turned_cases p z) [
  | inl h ↦ ap (λ x. x *ℤ p) h.1 ∙ (int_mul_comm z p ∙ ap (λ x. x *ℤ z) (size_above p h.0))
  | inr h ↦ ap (λ x. x *ℤ p) h.1 ∙ (int_neg_mul z p ∙ (ap neg_ℤ (int_mul_comm z p) ∙ (sym (int_neg_mul p z) ∙ ap (λ x. x *ℤ z) (neg_size_below p (let l = h.0 in omega (arith, ints))))))
]

-- what turning keeps: each number, or each number's opposite
pub turns : (b : Bound) (p : ℤ) → ((z : ℤ) → turned_by b p z ≡ z) ⊎ ((z : ℤ) → turned_by b p z ≡ neg_ℤ z)
turns Lower p = ⊎_elim
    (λ (l : p <ℤ pos 0). inr (λ z. turned_below p z l))
    (λ (l : pos 0 ≤ℤ p). inl (λ z. turned_above p z l))
    (int_lt_or_le p (pos 0))
turns Upper p = ⊎_elim
    (λ (l : p <ℤ pos 0). inl (λ z. ap neg_ℤ (turned_below p z l) ∙ omega (arith, ints)))
    (λ (l : pos 0 ≤ℤ p). inr (λ z. ap neg_ℤ (turned_above p z l)))
    (int_lt_or_le p (pos 0))

-- signs that agree or are opposite, by the number turned
pub turned_same : (p z : ℤ) → IsSameSign p z → pos 0 <ℤ turned p z
turned_same p z (inl h) = let e = turned_above p z (let l = h.0 in omega (arith, ints)) in let l = h.1 in omega (arith, ints)
turned_same p z (inr h) = let e = turned_below p z h.0 in let l = h.1 in omega (arith, ints)

pub turned_opposite : (p z : ℤ) → IsOppositeSign p z → turned p z <ℤ pos 0
turned_opposite p z (inl h) = let e = turned_above p z (let l = h.0 in omega (arith, ints)) in let l = h.1 in omega (arith, ints)
turned_opposite p z (inr h) = let e = turned_below p z h.0 in let l = h.1 in omega (arith, ints)

pub same_turned : (p z : ℤ) → p ≢ pos 0 → pos 0 <ℤ turned p z → IsSameSign p z
same_turned p z some h = elim (turned_cases p z) [
  | inl q ↦ let l = q.0 in let e = q.1 in inl (omega (arith, ints), omega (arith, ints))
  | inr q ↦ let l = q.0 in let e = q.1 in inr (omega (arith, ints), omega (arith, ints))
]

pub opposite_turned : (p z : ℤ) → p ≢ pos 0 → turned p z <ℤ pos 0 → IsOppositeSign p z
opposite_turned p z some h = elim (turned_cases p z) [
  | inl q ↦ let l = q.0 in let e = q.1 in inl (omega (arith, ints), omega (arith, ints))
  | inr q ↦ let l = q.0 in let e = q.1 in inr (omega (arith, ints), omega (arith, ints))
]

-- moving the column lowers the turned row: its turned entry is below 0 at a lower bound, above 0 at an upper one
abbrev pub Lowers : Bool → ℤ → Type 0
Lowers high z = cond high (pos 0 <ℤ z) (z <ℤ pos 0)

pub toward_lowers : (b : Bound) (high : Bool) (entry basic : ℤ) → IsToward b high entry basic → Lowers high (turned_by b basic entry)
toward_lowers Lower true entry basic h = turned_same basic entry h
toward_lowers Lower false entry basic h = turned_opposite basic entry h
toward_lowers Upper true entry basic h = let l = turned_opposite basic entry h in omega (arith, ints)
toward_lowers Upper false entry basic h = let l = turned_same basic entry h in omega (arith, ints)

pub lowers_toward : (b : Bound) (high : Bool) (entry basic : ℤ) → basic ≢ pos 0 → Lowers high (turned_by b basic entry) → IsToward b high entry basic
lowers_toward Lower true entry basic some h = same_turned basic entry some h
lowers_toward Lower false entry basic some h = opposite_turned basic entry some h
lowers_toward Upper true entry basic some h = opposite_turned basic entry some (omega (arith, ints))
lowers_toward Upper false entry basic some h = same_turned basic entry some (omega (arith, ints))

-- an entry that lowers isn't 0
pub lowers_some : (b : Bound) (high : Bool) (entry basic : ℤ) → Lowers high (turned_by b basic entry) → entry ≢ pos 0
lowers_some b true entry basic h zero = elim (turns b basic) [ inl f ↦ let e = f entry in omega (arith, ints) | inr f ↦ let e = f entry in omega (arith, ints) ]
lowers_some b false entry basic h zero = elim (turns b basic) [ inl f ↦ let e = f entry in omega (arith, ints) | inr f ↦ let e = f entry in omega (arith, ints) ]

-- the magnitude of a turned number
pub turned_magnitude : (b : Bound) (p z : ℤ) → unsigned_abs (turned_by b p z) ≡ unsigned_abs z
turned_magnitude b p z = elim (turns b p) [ inl f ↦ ap unsigned_abs (f z) | inr f ↦ ap unsigned_abs (f z) ∙ omega (arith, ints) ]
