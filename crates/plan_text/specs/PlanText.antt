-- The text of a plan: its denominator, a line for each segment, five lines for each stage, the openings, and `end`. Which plans
-- have a text, which bytes are one or begin with one, and that no text goes on where another ends.
use Rattle.std.specs.Prelude.{ℕ, ◌≡◌, ◌^◌, ◌<◌, zero, suc, List, [], ◌∷◌, ◌++◌, map, pos, codes, All}
use Rattle.std.specs.List.{flat_map}
use Rattle.text_parts.specs.Lines.{Reading, text_of}
use Rattle.road_types.specs.Numbered.{numbered}
use Rattle.road_types.specs.declared.road.Road.{Road}
use Rattle.plan_rules.specs.declared.plan.Piece.{Piece}
use Rattle.plan_rules.specs.declared.plan.Plan.{Plan}
use Rattle.plan_rules.specs.Fits.{Fits}
use Rattle.plan_text.specs.declared.rows.Tables.{Tables}
use Rattle.plan_text.specs.LineForms.{spelled_line}

-- the five tables of a plan
abbrev pub tables_of : Plan → Tables
tables_of plan = record { cut = plan.cut; fill = plan.fill; right = plan.right; left = plan.left; roads = plan.roads }

-- the line of a segment
abbrev pub piece_text : Piece → List ℕ
piece_text piece = spelled_line (codes "piece") (piece.a ∷ piece.b ∷ piece.c ∷ [])

-- the five lines of stage t
abbrev pub stage_text : Tables → ℕ → List ℕ
stage_text tables t =
    spelled_line (codes "cut") (numbered [] tables.cut t) ++ (spelled_line (codes "fill") (numbered [] tables.fill t) ++ (spelled_line (codes "right") (numbered [] tables.right t) ++ (spelled_line (codes "left") (numbered [] tables.left t) ++ spelled_line (codes "roads") (numbered [] tables.roads t))))

-- the lines of so many stages, of which the first is stage t
abbrev pub stages_text : Tables → ℕ → ℕ → List ℕ
stages_text tables t zero = []
stages_text tables t (suc count) = stage_text tables t ++ stages_text tables (suc t) count

-- the text of a plan of a road
unfoldable pub plan_text : Road → Plan → List ℕ
plan_text road plan =
    spelled_line (codes "plan") (plan.den ∷ [])
    ++ (flat_map piece_text plan.pieces
    ++ (stages_text (tables_of plan) 1 road.stages
    ++ (spelled_line (codes "open") (map pos plan.opens)
    ++ spelled_line (codes "end") [])))

-- opening stages that a byte holds
abbrev pub AreBytes : List ℕ → Type 0
AreBytes opens = All (λ stage. stage < 2 ^ 8) opens

-- a plan that has a text: it fits the road, and each opening is a byte, as in every plan of the program
pub record HasText (road : Road) (plan : Plan) : Type 0 where
  pub fits : Fits road plan
  pub openings : AreBytes plan.opens

-- the bytes are the text of this plan of the road
pub record IsPlanText (road : Road) (bytes : List ℕ) (plan : Plan) : Type 0 where
  pub has_text : HasText road plan
  pub is_text : bytes ≡ plan_text road plan

-- the lines that are left begin with the text of this plan, and these bytes follow it
pub record StartsWithPlan (road : Road) (lines : Reading) (plan : Plan) (rest : List ℕ) : Type 0 where
  pub has_text : HasText road plan
  pub text_is : text_of lines.left ≡ plan_text road plan ++ rest

-- no text of a plan of the road goes on where that of another ends: a front of a text is the text of no other plan
abbrev pub AreApart : Road → Type 0
AreApart road =
    (plan other : Plan) (rest : List ℕ) → HasText road plan → HasText road other → plan_text road plan ++ rest ≡ plan_text road other
    → (plan ≡ other) × (rest ≡ [])
