-- Tests and what they tell.
use Rattle.std.proofs.Common.{◌↔◌, IsTrue, Bool}

-- a test that asks two tells what these tell together
pub both_tells : {P Q R : Type 0} (r a b : Bool) → (IsTrue r ↔ (IsTrue a × IsTrue b)) → (IsTrue a ↔ P) → (IsTrue b ↔ Q) → (P × Q → R) → (R → P × Q) → (IsTrue r ↔ R)
both_tells r a b is p q there back =
    (λ t. let ab = is.0 t in there (p.0 ab.0, q.0 ab.1), λ h. let pq = back h in is.1 (p.1 pq.0, q.1 pq.1))
