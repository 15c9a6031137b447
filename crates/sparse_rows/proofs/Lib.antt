pub mod Tests
pub mod LinesLemmas
pub mod Merging
pub mod Common
pub mod SumsLemmas
