pub mod Backs
pub mod Takings
pub mod Chains
pub mod Items
pub mod Reverts
pub mod Aparts
