pub mod Answered
pub mod Widths
pub mod Refusals
pub mod Carriable
pub mod inside
