pub mod AnyTalks
pub mod Held
pub mod Conversations
