pub mod PartsLemmas
pub mod LinesLemmas
pub mod DecimalLemmas
pub mod SpellingLemmas
mod Examples
