pub mod RunFolds
pub mod RunSteps
pub mod Presented
