pub mod Products
pub mod Order
pub mod Magnitudes
pub mod SumsLemmas
pub mod ListsLemmas
pub mod TotalsLemmas
pub mod NumberedLemmas
mod Examples
