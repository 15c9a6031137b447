pub mod LogicLemmas
pub mod SumWidths
pub mod AmountWidths
pub mod CostWidths
pub mod HeightWidths
pub mod CapsLemmas
pub mod ScanLemmas
pub mod FitsLemmas
mod Examples
