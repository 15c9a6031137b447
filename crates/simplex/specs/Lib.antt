pub mod Givens
pub mod States
pub mod Starts
pub mod Choices
pub mod Refusals
pub mod Ends
pub mod inside
