pub mod Trees
pub mod Soundness
pub mod LeastBounds
pub mod Proving
pub mod Written
pub mod inside
