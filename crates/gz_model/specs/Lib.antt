pub mod Faults
pub mod Lines
pub mod Prefix
pub mod Told
pub mod Steps
