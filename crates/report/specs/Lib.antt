pub mod Lines
pub mod Mass
pub mod Reports
pub mod inside
