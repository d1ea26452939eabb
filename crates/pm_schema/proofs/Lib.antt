mod Orders
mod Sorted
mod Plain
mod Places
mod Tables
mod Shares
pub mod Rounds
mod Rows
pub mod SameLaws
mod Dead
mod Makes
mod Pairs
mod Differ
pub mod FitLaws
