pub mod Ascents
pub mod inside
