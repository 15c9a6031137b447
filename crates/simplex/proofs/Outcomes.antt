-- What follows from what is known of an outcome.
use Rattle.std.specs.Prelude.{Result, Ok, Err, IfOk, IfErr}

pub ok_weaker : {A E : Type 0} (P Q : A → Type 0) (r : Result A E) → ((x : A) → P x → Q x) → IfOk r P → IfOk r Q
ok_weaker P Q (Ok x) h p = h x p
ok_weaker P Q (Err e) h p = tt

pub err_weaker : {A E : Type 0} (P Q : E → Type 0) (r : Result A E) → ((x : E) → P x → Q x) → IfErr r P → IfErr r Q
err_weaker P Q (Ok x) h p = tt
err_weaker P Q (Err e) h p = h e p
