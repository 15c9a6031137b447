-- What the functions that look for a split of a box need: one lemma for each step.
use Rattle.std.proofs.Common.{◌≡◌, ◌⊎◌, ℕ, ◌-◌, ◌<◌, ◌≤◌, Option, None, List, length, get_or, sym, subst, ⊎_elim}
use Rattle.std.specs.Prelude.{ℤ}
use Rattle.algebra.proofs.NumberedLemmas.{numbered_at}
use Rattle.road_types.specs.Faults.{road_fault}
use Rattle.road_types.specs.Numbered.{IsNumber, numbered}
use Rattle.road_types.specs.Ranges.{height_range}
use Rattle.road_types.specs.Road.{section, section_count, block_count}
use Rattle.road_types.specs.WellFormed.{IsCounted}
use Rattle.road_types.specs.declared.road.Road.{Road}
use Rattle.road_points.proofs.FormsHold.{tables_of}
use Rattle.volume_lines.specs.SlabTables.{HasSlabTables}
use Rattle.milp_builder.specs.Boxes.{IsBoxOf, opening_range}
use Rattle.milp_builder.specs.Parts.{SplitsOffsets, SplitsOpenings}
use Rattle.milp_builder.specs.declared.boxes.BoxRange.{BoxRange}
use Rattle.branch_bound.specs.inside.FreeSplits.{IsFreeHeight}
use Rattle.branch_bound.specs.inside.Splitting.{IsInnerBreakpoint}
use Rattle.branch_bound.specs.declared.splitting.Candidate.{Candidate}
use Rattle.branch_bound.proofs.AskingLemmas.{well_formed_of}

pub tables_of_section : (road : Road) (i : ℕ) → road_fault road ≡ None → IsNumber i (section_count road) → HasSlabTables (section road i)
tables_of_section road i h n = tables_of road (well_formed_of road h) i n

pub range_number : (road : Road) (box : BoxRange) (i : ℕ) → IsBoxOf road box → IsNumber i (section_count road) → IsNumber i (length box.heights)
range_number road box i fits n = subst (IsNumber i) (sym fits.heights_count) n

pub opens_number : (road : Road) (box : BoxRange) (k : ℕ) → IsBoxOf road box → IsNumber k (block_count road) → IsNumber k (length box.opens)
opens_number road box k fits n = subst (IsNumber k) (sym fits.opens_count) n

pub section_splits : (road : Road) (box : BoxRange) (i : ℕ) (at : ℤ) → IsNumber i (section_count road)
    → IsInnerBreakpoint (section road i) (height_range box.heights i) at → SplitsOffsets road box i at
section_splits road box i at n b = record { number = n; breakpoint = b.breakpoint; above = b.above; below = b.below }

pub one_of_both : (road : Road) (box : BoxRange) (one two found : Option Candidate) → (found ≡ one) ⊎ (found ≡ two) → IsFreeHeight road box one → IsFreeHeight road box two
    → IsFreeHeight road box found
one_of_both road box one two found e h k =
    ⊎_elim
    (λ (s : found ≡ one). subst (λ (o : Option Candidate). IsFreeHeight road box o) (sym s) h)
    (λ (s : found ≡ two). subst (λ (o : Option Candidate). IsFreeHeight road box o) (sym s) k)
    e

pub opening_splits : (road : Road) (box : BoxRange) (k stage : ℕ) → IsNumber k (block_count road) → (opening_range box k).0 ≤ stage
    → stage < (opening_range box k).1 → SplitsOpenings road box k stage
opening_splits road box k stage n from to = record { number = n; up_to = from; after = to }

pub counted_of : (road : Road) → road_fault road ≡ None → IsCounted road
counted_of road h = (well_formed_of road h).counted

pub opens_at : (opens : List (ℕ × ℕ)) (k : ℕ) → IsNumber k (length opens) → get_or opens (k - 1) (0, 0) ≡ numbered (0, 0) opens k
opens_at opens k n = sym (numbered_at (0, 0) opens k n.from_one)
