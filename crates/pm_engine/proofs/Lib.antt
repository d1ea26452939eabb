pub mod Crossing
mod Exchanging
mod Names
