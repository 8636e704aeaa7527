pub mod Applications
pub mod Log
pub mod Processes
pub mod Worlds
pub mod Theorem
pub mod Consumed
pub mod Runs
