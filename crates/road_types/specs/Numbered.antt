-- Entries of a list by their numbers, which begin at 1.
pub use Rattle.algebra.specs.Numbered.{numbered, IsNumber}
