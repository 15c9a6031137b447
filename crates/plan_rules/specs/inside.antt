pub mod FitsByParts
pub mod Widths
pub mod Scans
