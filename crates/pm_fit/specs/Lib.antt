pub mod Candidates
pub mod Paths
pub mod Wrappings
pub mod Fits
pub mod Firsts
pub mod Fitteds
