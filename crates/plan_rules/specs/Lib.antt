pub mod Plans
pub mod Fits
pub mod Rules
pub mod Costs
pub mod Verdicts
pub mod Examples
pub mod inside
