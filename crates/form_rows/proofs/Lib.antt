pub mod RisingLemmas
pub mod GrewLemmas
pub mod PlaceLemmas
