pub mod Leading
pub mod Anchors
