pub mod LowestTerms
