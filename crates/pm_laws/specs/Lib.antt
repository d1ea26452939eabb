pub mod Memory
pub mod Something
pub mod Splices
pub mod NoneUnknown
pub mod Contents
pub mod Listed
pub mod Orders
pub mod Unmet
