-- A record without costs or caps is no section.
use Rattle.std.proofs.Common.{◌≡◌, ◌==◌, ℕ, ℤ, true, List, length, Option, Some, None, Err, refl}
use Rattle.road_types.specs.RecordFaults.{is_station, is_height, is_cost, is_cap}
use Rattle.road_types.specs.declared.road.Section.{Section}
use Rattle.road_types.specs.declared.road.Slab.{Slab}
use Rattle.section_tables.specs.declared.error.TableErr.{TableErr}
use Rattle.section_tables.specs.declared.error.TableErr.TheVariants.{Refused, NoMemory}
use Rattle.section_tables.specs.Steps.{◌>>=◌, MayAnswer}
use Rattle.section_tables.specs.Cells.{number_in, slabs_of}
use Rattle.section_tables.specs.Tables.{cell_at, cell_count, section_of}
use Rattle.section_tables.specs.inside.Prices.{prices_of}

abbrev all_four : ℤ → ℤ → ℤ → ℤ → Option (ℤ × ℤ × ℤ × ℤ)
all_four w x y z = Some (w, x, y, z)

-- where one of four steps finds nothing, nothing comes of them
none_of_four : {B : Type 0} (a b c d : Option ℤ) (made : ℤ → ℤ → ℤ → ℤ → Option B) → a >>= (λ w. b >>= (λ x. c >>= (λ y. d >>= (λ z. all_four w x y z)))) ≡ None
    → a >>= (λ w. b >>= (λ x. c >>= (λ y. d >>= (λ z. made w x y z)))) ≡ None
none_of_four None b c d made e = refl
none_of_four (Some w) None c d made e = refl
none_of_four (Some w) (Some x) None d made e = refl
none_of_four (Some w) (Some x) (Some y) None made e = refl
none_of_four (Some w) (Some x) (Some y) (Some z) made e = cc

pub without_prices : (cells : List (List ℕ)) (station ground : ℤ) (cut fill : List Slab) (e : TableErr) → (length cells == cell_count) ≡ true
    → cell_at (number_in is_station) 0 cells ≡ Some station → cell_at (number_in is_height) 1 cells ≡ Some ground → cell_at slabs_of 2 cells ≡ Some cut → cell_at slabs_of 3 cells ≡ Some fill
    → MayAnswer {A = ℤ × ℤ × ℤ × ℤ} (Err e) (prices_of cells) → MayAnswer {A = Section} (Err e) (section_of cells)
unfolding section_of prices_of
without_prices cells station ground cut fill Refused count s g c f none =
    rw (count, s, g, c, f) (none_of_four (cell_at (number_in is_cost) 4 cells) (cell_at (number_in is_cost) 5 cells) (cell_at (number_in is_cap) 6 cells) (cell_at (number_in is_cap) 7 cells) _ none)
without_prices cells station ground cut fill NoMemory count s g c f none = tt
