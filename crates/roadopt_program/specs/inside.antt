pub mod Called
pub mod Outcomes
