mod Places
mod Insides
