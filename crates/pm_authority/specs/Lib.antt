pub mod Runs
pub mod Presents
pub mod Kept
pub mod Causes
pub mod Requests
