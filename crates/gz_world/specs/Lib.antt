pub mod Starts
pub mod Worlds
pub mod Report
pub mod Run
pub mod Kept
pub mod Told
pub mod Replays
