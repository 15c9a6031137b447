pub mod ClimbLemmas
