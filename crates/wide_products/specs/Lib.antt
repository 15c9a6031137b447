pub mod Naturals
