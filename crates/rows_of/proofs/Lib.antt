pub mod PointsLemmas
