pub mod Begun
pub mod Elsewhere
pub mod Forms
pub mod Members
pub mod Orders
pub mod Spaces
pub mod Starts
