pub mod Cases
pub mod Converged
pub mod Views
pub mod Steps
