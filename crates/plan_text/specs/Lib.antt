pub mod LineForms
pub mod PlanText
pub mod Misfits
pub mod Taken
pub mod inside
