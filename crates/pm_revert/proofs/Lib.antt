mod Gatherings
mod Chains
mod Takings
pub mod Made
mod Items
mod Tolds
mod Tellings
mod Aparts
pub mod Leavings
