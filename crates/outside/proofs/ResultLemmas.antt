-- Facts that hold whatever a call answered.
use Rattle.std.proofs.Common.{Result, Ok, Err, IfOk, OnOk, OnErr}

module _ {T E : Type 0} where
  pub OnOk-always : (r : Result T E) (P : Type 0) → P → OnOk r P
  OnOk-always (Ok x) P p = p
  OnOk-always (Err e) P p = tt

  pub OnErr-always : (r : Result T E) (P : Type 0) → P → OnErr r P
  OnErr-always (Ok x) P p = tt
  OnErr-always (Err e) P p = p

  pub IfOk-always : (r : Result T E) (P : T → Type 0) → ((x : T) → P x) → IfOk r P
  IfOk-always (Ok x) P p = p x
  IfOk-always (Err e) P p = tt
