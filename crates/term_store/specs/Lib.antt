pub mod HeldRow
pub mod HeldRows
pub mod inside
