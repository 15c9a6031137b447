pub mod FormLemmas
pub mod RepeatLemmas
pub mod WordLemmas
pub mod FormLaws
pub mod SpellsLemmas
pub mod PartLaws
pub mod TableLemmas
pub mod PlanLaws
pub mod WriteLemmas
pub mod DueLaws
pub mod AnswerLaws
mod Examples
