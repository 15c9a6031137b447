pub mod LevelLemmas
pub mod MultLemmas
pub mod StepLemmas
pub mod WordLaws
pub mod LineLaws
pub mod HeadLaws
pub mod TreeLaws
pub mod NextLaws
pub mod CertLemmas
pub mod LowestLaws
pub mod HeadingLaws
pub mod CertLaws
pub mod ValidLaws
pub mod LineCounts
pub mod MisfitLaws
pub mod ReadLaws
pub mod NextMisfits
mod WriteLemmas
