pub mod Splices
pub mod Laws
