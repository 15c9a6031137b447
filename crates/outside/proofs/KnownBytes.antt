-- Runs of writes on known bytes.
use Rattle.std.proofs.Common.{◌≡◌, ℕ, ◌+◌, ◌≤◌, List, ◌++◌, length, take, drop, Option, Some, None, sym, ◌∙◌, ap, subst, append_assoc, length-append, arith}
use Rattle.std.proofs.Math.Seq.{take-add}
use Rattle.std.proofs.KnownBytes.{Consumes-trans}
use Rattle.std.proofs.lemmas.List.{length-take-le, take-append-le}
use Rattle.std.specs.Io.KnownBytes.{Appends, Consumes}

-- what was put, and then more
pub Appends-append : (old mid new : Option (List ℕ)) (xs ys : List ℕ) → Appends old mid xs → Appends mid new ys → Appends old new (xs ++ ys)
Appends-append None mid new xs ys a b = tt
Appends-append (Some o) None new xs ys a b = absurd a
Appends-append (Some o) (Some m) None xs ys a b = absurd b
Appends-append (Some o) (Some m) (Some n) xs ys a b = b ∙ ap (λ (l : List ℕ). l ++ ys) a ∙ append_assoc o xs ys

-- the first bytes were put, and then some of those behind them
pub Appends-take : (old mid new : Option (List ℕ)) (bytes rest : List ℕ) (done taken : ℕ) → rest ≡ drop done bytes → Appends old mid (take done bytes) → Appends mid new (take taken rest) → Appends old new (take (done + taken) bytes)
Appends-take old mid new bytes rest done taken is a b =
    let more : Appends mid new (take taken (drop done bytes)) = subst (λ r. Appends mid new (take taken r)) is b in
    subst (Appends old new) (sym (take-add done taken bytes)) (Appends-append old mid new _ _ a more)

-- what was read before, and then the first bytes of a piece
pub Consumes-piece : (old mid new : Option (List ℕ)) (bytes now piece rest : List ℕ) (taken : ℕ) → now ≡ bytes ++ take taken (piece ++ rest) → taken ≤ length piece → Consumes old mid bytes → Consumes mid new (take taken piece) → Consumes old new now
Consumes-piece old mid new bytes now piece rest taken is within before more =
    subst (Consumes old new) (sym (is ∙ ap (λ (l : List ℕ). bytes ++ l) (take-append-le taken piece rest within))) (Consumes-trans old mid new bytes _ before more)

-- so many bytes more
pub length-piece : (bytes now piece rest : List ℕ) (taken : ℕ) → now ≡ bytes ++ take taken (piece ++ rest) → taken ≤ length piece → length now ≡ length bytes + taken
length-piece bytes now piece rest taken is within =
    ap length is ∙ length-append bytes (take taken (piece ++ rest)) ∙ ap (λ (n : ℕ). length bytes + n) (length-take-le taken (piece ++ rest) (omega (arith, length-append piece rest)))
