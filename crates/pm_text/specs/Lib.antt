pub mod Units
pub mod Lone
