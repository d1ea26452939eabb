pub mod Runs
pub mod Stepping
pub mod Laws
pub mod Authors
