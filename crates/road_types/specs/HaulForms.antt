-- The rows for what is moved: what balances each section in each stage, caps each pit, and keeps earth from passing or being
-- moved at blocks. They come in five groups, in this order.
use Rattle.std.specs.Prelude.{ℕ, ◌+◌, ◌-◌, ◌==◌, if◌then◌else◌, List, [], ◌∷◌, ◌++◌, ℤ, pos, neg_ℤ, ◌+ℤ◌}
use Rattle.algebra.specs.Lists.{list_to, flat_to}
use Rattle.road_types.specs.Road.{section, hop, pit, access, block, section_count, access_count, pit_count, block_count, serves}
use Rattle.road_types.specs.Forms.{Form, equal_form, least_form}
use Rattle.road_types.specs.declared.road.Road.{Road}
use Rattle.road_types.specs.declared.road.PitKind.TheVariants.{Borrow, Waste}
use Rattle.road_types.specs.declared.column.Column.TheVariants.{Cut, Fill, Right, Left, Access, Opened}

-- what access road q brings to section i: 1 of a borrow pit, -1 of a waste pit, and 0 where it stands elsewhere
abbrev pub brought : Road → ℕ → ℕ → ℤ
brought road i q =
    if serves road Borrow i q then pos 1 else if serves road Waste i q then neg_ℤ (pos 1) else pos 0

-- balance: what comes to section i in stage t less what leaves it is 0
abbrev pub balance_form : Road → ℕ → ℕ → Form
balance_form road t i =
    equal_form
    (((Cut i t, pos 1)
    ∷ (Fill i t, neg_ℤ (pos 1))
    ∷ (Right (i - 1) t, pos 1)
    ∷ (Right i t, neg_ℤ (pos 1))
    ∷ (Left (i - 1) t, neg_ℤ (pos 1))
    ∷ (Left i t, pos 1)
    ∷ [])
    ++ list_to (λ q. (Access q t, brought road i q)) (access_count road))
    (pos 0)

abbrev pub balance_forms : Road → List Form
balance_forms road = flat_to (λ t. list_to (balance_form road t) (section_count road)) road.stages

-- what access road q takes of pit p's capacity: -1, and 0 where it belongs to another pit
abbrev pub taken : Road → ℕ → ℕ → ℤ
taken road p q = if (access road q).pit == p then neg_ℤ (pos 1) else pos 0

-- pit: all amounts on a pit's access roads in all stages are at most its capacity
abbrev pub pit_form : Road → ℕ → Form
pit_form road p =
    least_form (flat_to (λ t. list_to (λ q. (Access q t, taken road p q)) (access_count road)) road.stages)
    (neg_ℤ (pit road p).capacity)

abbrev pub pit_forms : Road → List Form
pit_forms road = list_to (pit_form road) (pit_count road)

-- the most that can leave section i by hauls in a stage
abbrev pub greatest_haul_out : Road → ℕ → ℤ
greatest_haul_out road i = (hop road i).right_max +ℤ (hop road (i - 1)).left_max

-- transit: before block k is opened, no more leaves its section in stage t than is cut there
abbrev pub transit_form : Road → ℕ → ℕ → Form
transit_form road k t =
    let i = (block road k).section in
    least_form
    ((Cut i t, pos 1)
    ∷ (Right i t, neg_ℤ (pos 1))
    ∷ (Left (i - 1) t, neg_ℤ (pos 1))
    ∷ (Opened k t, greatest_haul_out road i)
    ∷ [])
    (pos 0)

abbrev pub transit_forms : Road → List Form
transit_forms road = flat_to (λ k. list_to (transit_form road k) road.stages) (block_count road)

-- stop: from its opening on nothing is cut, and nothing filled, at block k's section in stage t

abbrev pub cut_stop_form : Road → ℕ → ℕ → Form
cut_stop_form road k t =
    let i = (block road k).section in
    least_form ((Cut i t, neg_ℤ (pos 1)) ∷ (Opened k t, neg_ℤ (section road i).cut_max) ∷ []) (neg_ℤ (section road i).cut_max)

abbrev pub fill_stop_form : Road → ℕ → ℕ → Form
fill_stop_form road k t =
    let i = (block road k).section in
    least_form ((Fill i t, neg_ℤ (pos 1)) ∷ (Opened k t, neg_ℤ (section road i).fill_max) ∷ []) (neg_ℤ (section road i).fill_max)

-- for the stages from 2 on
abbrev pub stop_forms : Road → List Form
stop_forms road =
    flat_to (λ k. flat_to (λ before. cut_stop_form road k (before + 1) ∷ fill_stop_form road k (before + 1) ∷ []) (road.stages - 1))
    (block_count road)

-- order: a block that is opened at stage t is so at the next stage
abbrev pub order_form : Road → ℕ → ℕ → Form
order_form road k t = least_form ((Opened k t, neg_ℤ (pos 1)) ∷ (Opened k (t + 1), pos 1) ∷ []) (pos 0)

-- for the stages from 2 to the last but one
abbrev pub order_forms : Road → List Form
order_forms road = flat_to (λ k. list_to (λ before. order_form road k (before + 1)) (road.stages - 2)) (block_count road)

-- all rows for what is moved
abbrev pub haul_forms : Road → List Form
haul_forms road = balance_forms road ++ (pit_forms road ++ (transit_forms road ++ (stop_forms road ++ order_forms road)))
