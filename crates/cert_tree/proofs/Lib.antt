pub mod Lift
pub mod LeafLemmas
pub mod WrittenLemmas
