pub mod Moves
pub mod Through
pub mod Mirrors
pub mod Fits
pub mod Stills
pub mod Firsts
pub mod Laws
pub mod Positions
