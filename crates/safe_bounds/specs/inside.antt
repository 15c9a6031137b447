pub mod Drawn
pub mod Magnitudes
