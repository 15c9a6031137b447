pub mod NaturalsLemmas
pub mod SignsLemmas
