pub mod Frames
pub mod Fed
pub mod Positions
pub mod Placing
