pub mod Bare
pub mod Hearings
pub mod Backs
pub mod Heard
