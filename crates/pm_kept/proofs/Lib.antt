pub mod Alike
mod AlikeAsked
mod AlikeLives
mod AlikeOpenings
pub mod Files
mod Heard
mod LimitedAlike
mod Opens
mod Runs
mod Said
mod Stands
mod TalkChanges
mod Unchanged
