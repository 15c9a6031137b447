pub mod ColumnKinds
pub mod PlanPoints
pub mod Shown
pub mod ShownPlan
