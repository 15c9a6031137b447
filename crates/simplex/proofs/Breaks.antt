-- Whether a basic value breaks a bound, for equal numbers.
use Rattle.std.proofs.Common.{◌≡◌, ℕ, ◌≤◌, ◌<◌, List, Bool, arith, subst}
use Rattle.std.specs.Prelude.{Option, Some, None, IfSome, IfNone, IsSome, ◌↔◌, ℤ, ◌+ℤ◌, ◌*ℤ◌, unsigned_abs}
use Rattle.tableau.specs.Tableaux.{Tableau}
use Rattle.tableau.specs.Operations.{IsOutOfRange}
use Rattle.tableau.specs.declared.op.Op.{Op}
use Rattle.tableau.specs.Signs.{IsSameSign, IsOppositeSign}

pub broken_sum : (rest r at p x e m : ℤ) → rest ≡ r → at ≡ p *ℤ x → p ≡ e → x ≡ m → rest +ℤ at ≡ r +ℤ e *ℤ m
broken_sum rest r at p x e m a b c d = cc

pub same_sign_at : (a b x y : ℤ) → a ≡ b → x ≡ y → IsSameSign a x → IsSameSign b y
same_sign_at a b x y e f h = subst (λ (z : ℤ). IsSameSign z y) e (subst (λ (z : ℤ). IsSameSign a z) f h)

pub opposite_sign_at : (a b x y : ℤ) → a ≡ b → x ≡ y → IsOppositeSign a x → IsOppositeSign b y
opposite_sign_at a b x y e f h = subst (λ (z : ℤ). IsOppositeSign z y) e (subst (λ (z : ℤ). IsOppositeSign a z) f h)

pub wide_product : (n : ℕ) (p e x m : ℤ) → p ≡ e → x ≡ m → n < unsigned_abs (p *ℤ x) → n < unsigned_abs (e *ℤ m)
wide_product n p e x m a b h = subst (λ (z : ℤ). n < unsigned_abs (z *ℤ m)) a (subst (λ (z : ℤ). n < unsigned_abs (p *ℤ z)) b h)

-- what is known of a row, bounds and flags, for equal ones
pub carry : {X Y : Type 0} (P : ℕ → X → Y → Y → List Bool → List Bool → Type 0) {n n' : ℕ} {a a' : X} {b b' c c' : Y} {d d' e e' : List Bool} → n ≡ n' → a ≡ a' → b ≡ b' → c ≡ c' → d ≡ d' → e ≡ e' → P n a b c d e → P n' a' b' c' d' e'
carry P {n = n} {n' = n'} {a = a} {a' = a'} {b = b} {b' = b'} {c = c} {c' = c'} {d = d} {d' = d'} {e = e} {e' = e'} o p q r s t h =
    subst (λ x. P x a' b' c' d' e') o (subst (λ x. P n x b' c' d' e') p (subst (λ x. P n a x c' d' e') q (subst (λ x. P n a b x d' e') r (subst (λ x. P n a b c x e') s (subst (λ x. P n a b c d x) t h)))))

pub some_weaker : {A : Type 0} (P Q : A → Type 0) (o : Option A) → ((x : A) → P x → Q x) → IfSome o P → IfSome o Q
some_weaker P Q (Some x) h p = h x p
some_weaker P Q None h p = tt

pub none_weaker : {A : Type 0} (P Q : Type 0) (o : Option A) → (P → Q) → IfNone o P → IfNone o Q
none_weaker P Q (Some x) h p = tt
none_weaker P Q None h p = h p

pub none_both : {A : Type 0} (P Q R : Type 0) (o : Option A) → (P → Q → R) → IfNone o P → IfNone o Q → IfNone o R
none_both P Q R (Some x) h p q = tt
none_both P Q R None h p q = h p q

pub out_weaker : (small big : ℕ) (t : Tableau) (op : Op) → small ≤ big → IsOutOfRange big t op → IsOutOfRange small t op
out_weaker small big t op l h = (h.0, h.1, let m = h.2 in omega arith)

nothing : (A : Type 0) → (let o : Option A = None in IsSome o) → ⊥
nothing A e = cc

-- where there is nothing, what makes something doesn't hold
pub none_case : {A : Type 0} (P Q : Type 0) (o : Option A) → (IsSome o ↔ P) → ((P → ⊥) → Q) → IfNone o Q
none_case P Q (Some x) is h = tt
none_case {A = A} P Q None is h = h (λ p. nothing A (is.1 p))
