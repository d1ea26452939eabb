pub mod Split
pub mod Counts
pub mod Missing
pub mod LineTexts
mod OneSchema
mod TwinFills
pub mod SameNodes
mod SameFills
mod OneDocument
pub mod OneHead
