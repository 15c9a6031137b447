pub mod Keys
pub mod KeyTrees
pub mod inside
