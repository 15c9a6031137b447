pub mod PairsLemmas
pub mod CopyLemmas
pub mod LeafLaws
pub mod TreeLaws
pub mod LowestLemmas
pub mod CostWidths
pub mod StatedLaws
pub mod CarryLaws
