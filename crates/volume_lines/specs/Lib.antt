pub mod SlabTables
pub mod InnerBreakpoints
