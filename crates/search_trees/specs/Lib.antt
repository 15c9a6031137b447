pub mod RootedTrees
pub mod Places
pub mod inside
