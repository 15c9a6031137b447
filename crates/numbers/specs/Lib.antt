pub mod Divisors
pub mod Fractions
pub mod Products
pub mod inside
