pub mod Absent
pub mod Calls
pub mod Histories
pub mod Looks
pub mod Moves
pub mod Seats
