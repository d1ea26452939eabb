pub mod Checkpoints
pub mod Late
pub mod Suiting
pub mod Pulled
pub mod LateSessions
