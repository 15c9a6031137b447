-- Volumes by slab tables: the volume down to a depth, the thickness of all slabs, and the net volume of an offset. m² times mm
-- are litres; depths and volumes are over the plan's denominator.
use Rattle.std.specs.Prelude.{List, [], ◌∷◌, ℤ, pos, neg_ℤ, ◌+ℤ◌, ◌-ℤ◌, ◌*ℤ◌}
use Rattle.std.specs.Int.{int_min, int_max}
use Rattle.road_types.specs.declared.road.Slab.{Slab}

-- the volume of the slabs down to a depth: of each slab the area times how much of its thickness the depth takes
unfoldable pub volume_to : List Slab → ℤ → ℤ → ℤ
volume_to [] depth den = pos 0
volume_to (slab ∷ slabs) depth den =
    slab.area *ℤ int_min depth (slab.thick *ℤ den) +ℤ volume_to slabs (int_max (depth -ℤ slab.thick *ℤ den) (pos 0)) den

-- the thickness of all slabs together, in mm
unfoldable pub thickness_of : List Slab → ℤ
thickness_of [] = pos 0
thickness_of (slab ∷ slabs) = slab.thick +ℤ thickness_of slabs

-- the fill that an offset above the ground asks for, less the cut that one below it asks for
abbrev pub net_volume : List Slab → List Slab → ℤ → ℤ → ℤ
net_volume cut fill offset den =
    volume_to fill (int_max offset (pos 0)) den -ℤ volume_to cut (int_max (neg_ℤ offset) (pos 0)) den
