-- What a sink was given, over puts.
use Rattle.std.proofs.Common.{◌≡◌, ℕ, List, [], ◌++◌, length, Option, Some, None, sym, ◌∙◌, ap, refl, arith}
use Rattle.std.specs.Option.{option_map}
use Rattle.std.proofs.lemmas.List.{append-nil, take_all}
use Rattle.outside.specs.Written.{GrewBy, GrewByPrefix}

-- all the bytes are a prefix of them
pub GrewByPrefix-all : (old : Option (List ℕ)) (bytes : List ℕ) (new : Option (List ℕ)) → GrewBy old bytes new → GrewByPrefix old bytes new
GrewByPrefix-all old bytes new grew =
    (length bytes, omega arith, grew ∙ ap (λ (l : List ℕ). option_map (λ written. written ++ l) old) (sym (take_all (length bytes) bytes (omega arith))))

kept : (old : Option (List ℕ)) → old ≡ option_map (λ written. written ++ []) old
kept None = refl
kept (Some written) = ap (λ (w : List ℕ). Some w) (sym (append-nil written))

-- and so is nothing
pub GrewByPrefix-none : (old : Option (List ℕ)) (bytes : List ℕ) (new : Option (List ℕ)) → new ≡ old → GrewByPrefix old bytes new
GrewByPrefix-none old bytes new same = (0, omega arith, same ∙ kept old)
