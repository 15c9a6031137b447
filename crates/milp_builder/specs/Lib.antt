pub mod Boxes
pub mod Parts
pub mod BoxPrograms
pub mod FoundPlans
pub mod Comparing
pub mod inside
