use Rattle.std.proofs.Common.{◌≡◌}
use Rattle.section_tables.specs.Steps.{each}
use Rattle.section_tables.specs.Cells.{slab_of}
use Rattle.section_tables.proofs.EachLemmas.{each_with}
use Rattle.section_tables.proofs.cells.slabs_among.Given as goal

abbrev pub invariant-loop-word : goal.invariant-loop-word
invariant-loop-word l =
    (goal.iterator-loop-word).can_next l.word-iterator × (goal.iterator-loop-word).is_finite l.word-iterator × (each slab_of l.initial.word-iterator ≡ each_with slab_of l.slabs.items l.word-iterator)
