pub mod Again
pub mod NoFloat
pub mod Puts
pub mod ReadSlices
