pub mod Bytes
pub mod Pieces
pub mod Reads
pub mod Lines
pub mod Serves
