pub mod Allowed
pub mod Keeper
pub mod Others
pub mod Cluster
pub mod Events
pub mod Ledger
pub mod Handover
pub mod Statements
