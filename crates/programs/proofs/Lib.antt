pub mod RowsLemmas
pub mod RisesLemmas
pub mod EntriesLemmas
pub mod PointsLemmas
pub mod WeightsLemmas
