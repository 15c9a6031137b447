pub mod Walking
pub mod Findings
