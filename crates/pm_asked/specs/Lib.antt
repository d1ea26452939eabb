pub mod Words
pub mod Given
pub mod Asked
pub mod Entries
