-- The text of a certificate: `certificate`, a plan with its cost or `unplanned`, a bound or `no bound`, the tree, and `end`.
-- Which certificates have a text, which bytes are one, and that no text goes on where another ends.
use Rattle.std.specs.Prelude.{ℕ, ◌≡◌, ◌^◌, ◌≤◌, List, [], ◌∷◌, ◌++◌, codes, Option, Some, None, unsigned_abs}
use Rattle.algebra.specs.Scale.{IsScale}
use Rattle.numbers.specs.Fractions.{Fraction, IsLowest, fraction_text}
use Rattle.road_types.specs.RoadPrograms.{row_count}
use Rattle.road_types.specs.declared.road.Road.{Road}
use Rattle.plan_text.specs.PlanText.{plan_text, HasText}
use Rattle.cert_tree.specs.Trees.{BoxTree}
use Rattle.cert_text.specs.declared.heading.PricedPlan.{PricedPlan}
use Rattle.cert_text.specs.NodeText.{spelled_words, tree_text, IsSpelledTree, most_levels}

-- what a certificate states: a plan at a cost, or none; a bound of all costs, or none; and a tree of boxes
pub record Certificate : Type 0 where
  pub planned : Option PricedPlan
  pub bound : Option Fraction
  pub tree : BoxTree

-- a plan's lines and its cost's
abbrev pub planned_text : Road → Option PricedPlan → List ℕ
planned_text road None = spelled_words (codes "unplanned" ∷ [])
planned_text road (Some priced) =
    plan_text road priced.plan ++ spelled_words (codes "cost" ∷ fraction_text priced.cost ∷ [])

-- the words of the bound's line
abbrev pub bound_words : Option Fraction → List (List ℕ)
bound_words None = codes "no" ∷ codes "bound" ∷ []
bound_words (Some bound) = codes "bound" ∷ fraction_text bound ∷ []

-- the text of a certificate for a road
unfoldable pub cert_text : Road → Certificate → List ℕ
cert_text road cert =
    spelled_words (codes "certificate" ∷ [])
    ++ (planned_text road cert.planned
    ++ (spelled_words (bound_words cert.bound)
    ++ (tree_text cert.tree
    ++ spelled_words (codes "end" ∷ []))))

-- a cost or a bound that can be stated: in lowest terms, the denominator at most 2^40, the numerator of magnitude at most 2^86
pub record IsStated (f : Fraction) : Type 0 where
  pub lowest : IsLowest f
  pub den_within : IsScale f.den
  pub num_within : unsigned_abs f.num ≤ 2 ^ 86

-- nothing is stated, or a fraction that can be
abbrev pub IsStatedOrNone : Option Fraction → Type 0
IsStatedOrNone None = Unit {0}
IsStatedOrNone (Some f) = IsStated f

-- no plan, or one that has a text, at a cost that can be stated
abbrev pub IsPricedOrNone : Road → Option PricedPlan → Type 0
IsPricedOrNone road None = Unit {0}
IsPricedOrNone road (Some priced) = HasText road priced.plan × IsStated priced.cost

-- a certificate that has a text for the road
pub record HasCertText (road : Road) (cert : Certificate) : Type 0 where
  pub planned : IsPricedOrNone road cert.planned
  pub bound : IsStatedOrNone cert.bound
  pub tree : IsSpelledTree (row_count road) most_levels cert.tree

-- the bytes are the text of this certificate for the road
pub record IsCertText (road : Road) (bytes : List ℕ) (cert : Certificate) : Type 0 where
  pub has_text : HasCertText road cert
  pub is_text : bytes ≡ cert_text road cert

-- no text of a certificate of the road goes on where that of another ends: a front of a text is the text of no other certificate
abbrev pub AreApart : Road → Type 0
AreApart road =
    (cert other : Certificate) (rest : List ℕ) → HasCertText road cert → HasCertText road other → cert_text road cert ++ rest ≡ cert_text road other
    → (cert ≡ other) × (rest ≡ [])
