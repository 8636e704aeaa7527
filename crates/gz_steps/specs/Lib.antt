pub mod Carrying
pub mod Followed
pub mod Steps
