pub mod States
pub mod Applications
