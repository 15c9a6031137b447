pub mod PlaceLemmas
pub mod RootedLemmas
pub mod LeastLemmas
pub mod ProvingLaws
