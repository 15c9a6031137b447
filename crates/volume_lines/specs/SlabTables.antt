-- The slab tables of a section of an accepted road.
use Rattle.road_types.specs.WellFormed.{IsSlabTable}
use Rattle.road_types.specs.declared.road.Section.{Section}

-- one to four solid slabs on either side of the ground
pub record HasSlabTables (s : Section) : Type 0 where
  pub cut : IsSlabTable s.cut
  pub fill : IsSlabTable s.fill
