pub mod Clock
pub mod Flags
pub mod Identifier
pub mod Producer
