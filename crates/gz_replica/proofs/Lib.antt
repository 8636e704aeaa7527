mod Rows
pub mod Stale
pub mod Sending
pub mod Holding
pub mod Slotted
pub mod Choosing
pub mod Entries
