pub mod Bares
mod Applying
mod Undoings
mod Backings
mod Hearings
mod Outcomes
mod Confirmings
mod Receivings
