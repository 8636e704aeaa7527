pub mod Stores
pub mod Commits
