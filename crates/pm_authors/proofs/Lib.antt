mod Grouping
mod Pieces
mod Ranges
mod Places
mod Logs
