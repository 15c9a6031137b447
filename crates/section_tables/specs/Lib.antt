pub mod Steps
pub mod Cells
pub mod Tables
pub mod inside
