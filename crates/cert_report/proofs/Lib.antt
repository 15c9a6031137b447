pub mod CountingLemmas
pub mod HeldLemmas
pub mod StatingLemmas
