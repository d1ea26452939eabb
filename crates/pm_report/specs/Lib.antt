pub mod Words
pub mod Outcomes
pub mod Report
pub mod Stored
