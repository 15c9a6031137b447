pub mod Carried
pub mod inside
