pub mod Covers
pub mod Leading
