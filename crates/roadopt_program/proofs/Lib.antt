mod CarryLemmas
mod CommandLemmas
mod FormsLemmas
mod SolvingLemmas
mod StatusLemmas
pub mod DueLaws
pub mod RunLaws
pub mod HeadlineLaws
mod RoadsLemmas
