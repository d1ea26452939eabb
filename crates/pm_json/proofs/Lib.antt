pub mod Lists
pub mod Members
pub mod Trees
pub mod Walks
