pub mod Scans
pub mod Rights
