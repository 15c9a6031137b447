pub mod DivisorsLemmas
pub mod FractionsLemmas
pub mod WholeLemmas
