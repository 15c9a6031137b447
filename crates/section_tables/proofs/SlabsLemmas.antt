-- A slab has two parts and no third one.
use Rattle.std.proofs.Common.{◌≡◌, ◌==◌, ℕ, List, ◌∷◌, Some, None, Bor, ap, ◌∙◌, refl}
use Rattle.text_parts.specs.Words.{further_parts}
use Rattle.text_parts.proofs.PartsLemmas.{first_part}
use Rattle.section_tables.specs.Cells.{slab_by}

no_third : (thick area part : List ℕ) (parts : List (List ℕ)) → slab_by (thick ∷ area ∷ part ∷ parts) ≡ None
unfolding slab_by
no_third thick area part parts = refl

pub third_part : (thick area : List ℕ) (behind : Bor (List ℕ)) → slab_by (thick ∷ area ∷ further_parts 58 (Some behind)) ≡ None
third_part thick area behind =
    let more = first_part (λ b. b == 58) behind.now in
    ap (λ parts. slab_by (thick ∷ area ∷ parts)) more.2 ∙ no_third thick area more.0 more.1
