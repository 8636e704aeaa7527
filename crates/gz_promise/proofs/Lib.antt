pub mod Orders
pub mod Refused
pub mod BySource
pub mod Clients
pub mod Counts
pub mod Entries
pub mod Users
