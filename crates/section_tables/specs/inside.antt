pub mod Narrow
pub mod Prices
pub mod Progress
