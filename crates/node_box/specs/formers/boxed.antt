pub mod NodeBox
