-- What is read in parts is what is read as a whole.
use Rattle.std.proofs.Common.{◌≡◌, refl}
use Rattle.toml.specs.Data.{Data, Members}
use Rattle.road_file.specs.Records.{section_of, file_of}
use Rattle.road_file.specs.inside.Reading.{section_with, read_section, whole_file, read_pits, read_places, read_on, read_file}

pub section_by_parts : (d : Data) → section_of d ≡ read_section d
unfolding section_of read_section section_with
section_by_parts d = refl

pub file_by_parts : (root : Members) → file_of root ≡ read_file root
unfolding file_of read_file read_on read_places read_pits whole_file
file_by_parts root = refl
