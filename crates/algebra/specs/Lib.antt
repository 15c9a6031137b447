pub mod Sums
pub mod Scale
pub mod Lists
pub mod Totals
pub mod Numbered
