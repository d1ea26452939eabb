pub mod Listings
pub mod Lookings
pub mod Pairings
pub mod Tellings
