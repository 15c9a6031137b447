pub mod ForestLaws
pub mod WalkLaws
pub mod ValidLaws
pub mod FindLaws
pub mod CheckLaws
pub mod OneRefusal
pub mod CarryLaws
pub mod WidthLaws
