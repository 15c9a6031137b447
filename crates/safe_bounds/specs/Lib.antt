pub mod Values
pub mod Bounds
pub mod Narrowing
pub mod Sparse
pub mod inside
