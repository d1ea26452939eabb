pub mod Nodes
pub mod Edits
pub mod Ops
pub mod Found
pub mod Laws
