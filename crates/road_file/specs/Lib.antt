pub mod Step
pub mod Keys
pub mod Kinds
pub mod Records
pub mod Ranges
pub mod Names
pub mod RoadOf
pub mod inside
