pub mod Duality
pub mod ValueWidths
pub mod DrawnLemmas
pub mod StepWidths
pub mod TakenLemmas
pub mod ColumnsLemmas
pub mod NarrowingLemmas
pub mod SparseLemmas
