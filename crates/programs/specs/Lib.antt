pub mod Programs
pub mod Points
pub mod Weights
pub mod Limits
