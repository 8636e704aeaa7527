pub mod Keys
pub mod Outcomes
pub mod Registered
