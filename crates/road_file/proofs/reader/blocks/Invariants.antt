use Rattle.std.proofs.Common.{◌≡◌, take, map}
use Rattle.road_file.specs.RoadOf.{block_from}
use Rattle.road_file.proofs.reader.blocks.Given as goal

abbrev pub invariant-loop-file_block : goal.invariant-loop-file_block
invariant-loop-file_block l = l.built.items ≡ map block_from (take l.file_block-index l.blocks)
