pub mod Draws
pub mod TrialRoads
