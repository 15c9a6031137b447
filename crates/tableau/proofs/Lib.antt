pub mod Lines
pub mod Starts
pub mod SignsLemmas
pub mod Results
pub mod Points
pub mod EndsLemmas
pub mod TrailsLemmas
