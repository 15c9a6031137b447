pub mod ShownPlans
pub mod Amounts
