pub mod LineReading
pub mod PlanReading
