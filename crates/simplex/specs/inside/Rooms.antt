-- Lists of an end before they are filled.
use Rattle.std.specs.Prelude.{◌≡◌, ℕ, ◌≤◌, [], vec_capacity}
use Rattle.simplex.specs.declared.solving.Room.{Room}

-- all but the trail are empty, with room for a number of each column or row
pub record IsRoomBehind (columns rows : ℕ) (room : Room) : Type 0 where
  pub no_point : room.point.items ≡ []
  pub no_ray : room.ray.items ≡ []
  pub no_mults : room.mults.items ≡ []
  pub point : columns ≤ vec_capacity room.point
  pub ray : rows ≤ vec_capacity room.ray
  pub mults : rows ≤ vec_capacity room.mults

-- the trail is empty too, with room for so many exchanges
pub record IsRoomFor (exchanges columns rows : ℕ) (room : Room) : Type 0 where
  pub no_trail : room.trail.items ≡ []
  pub trail : exchanges ≤ vec_capacity room.trail
  pub others : IsRoomBehind columns rows room
