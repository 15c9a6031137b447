pub mod LinesLemmas
pub mod CellsLemmas
pub mod WidthsLemmas
pub mod OneReport
pub mod TablesLemmas
pub mod MassLemmas
pub mod ZoneLaws
