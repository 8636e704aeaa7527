pub mod GoesOn
pub mod Commits
