pub mod Faults
pub mod Moves
pub mod Memory
pub mod Sure
