pub mod Hauls
pub mod Listings
pub mod Tables
