pub mod DocumentLemmas
pub mod ItemsLemmas
pub mod KeysLemmas
pub mod NamesLemmas
pub mod RoadLemmas
pub mod ReadingLemmas
