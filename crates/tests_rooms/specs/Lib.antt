pub mod Typing
pub mod TwoRooms
