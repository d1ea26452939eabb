pub mod TwinWraps
pub mod SameWrappings
pub mod SameSteps
pub mod SameTexts
pub mod Built
