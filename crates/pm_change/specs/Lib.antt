pub mod Failing
pub mod Changes
