pub mod Rules
pub mod Sets
pub mod Together
