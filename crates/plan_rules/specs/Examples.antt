-- Two plans that keep every rule and are none of their road: one hauls over a hop past the last, one has the denominator 0 and
-- empty lists. Neither is admissible.
use Rattle.std.specs.Prelude.{[], ◌∷◌, ℤ, pos}
use Rattle.road_types.specs.declared.road.Road.{Road}
use Rattle.road_types.specs.declared.road.Section.{Section}
use Rattle.road_types.specs.declared.road.Slab.{Slab}
use Rattle.road_types.specs.declared.road.Fixed.{Fixed}
use Rattle.plan_rules.specs.declared.plan.Plan.{Plan}

-- the height of a section's ground
abbrev ground : Section → ℤ
ground s = s.ground

-- a slab of 1 m and 50 m²
abbrev pub slab : Slab
slab = record { thick = pos 1000; area = pos 50 }

-- a section at a station, with its ground at a height
abbrev pub section_at : ℤ → ℤ → Section
section_at station height =
    record { station = station; ground = height; cut = slab ∷ []; fill = slab ∷ []; cut_cost = pos 3; fill_cost = pos 2; cut_max = pos 100000; fill_max = pos 100000 }

-- a fixed point at a height of 500 mm
abbrev pub fixed_at : ℤ → Fixed
fixed_at station = record { station = station; low = pos 500; high = pos 500 }

-- two sections with grounds at 1000 and 200 mm, both fixed at 500 mm, without a pit: no plan is admissible
abbrev pub two_sections : Road
two_sections =
    record {
      step = pos 20;
      stages = 1;
      knots = pos 0 ∷ pos 1 ∷ [];
      low = pos 0;
      high = pos 2000;
      grade = (pos 0, pos 0);
      curve = pos 0;
      sections = section_at (pos 0) (pos 1000) ∷ section_at (pos 1) (pos 200) ∷ [];
      fixed = fixed_at (pos 0) ∷ fixed_at (pos 1) ∷ [];
      pits = [];
      roads = [];
      blocks = [];
      hops = record { right_cost = pos 4; right_max = pos 50000; left_cost = pos 4; left_max = pos 50000 } ∷ [];
      nodes = pos 499;
      pivots = pos 5000;
    }

-- what the cut gives beyond the fill goes over a second hop, past the last
abbrev pub past_the_last_hop : Plan
past_the_last_hop =
    record {
      den = pos 1;
      pieces = record { a = pos 500; b = pos 0; c = pos 0 } ∷ [];
      cut = (pos 25000 ∷ pos 0 ∷ []) ∷ [];
      fill = (pos 0 ∷ pos 15000 ∷ []) ∷ [];
      right = (pos 25000 ∷ pos 10000 ∷ []) ∷ [];
      left = (pos 0 ∷ []) ∷ [];
      roads = [] ∷ [];
      opens = [];
    }

-- nothing over 0
abbrev pub nothing_over_zero : Plan
nothing_over_zero = record { den = pos 0; pieces = []; cut = []; fill = []; right = []; left = []; roads = []; opens = [] }
