pub mod Sums
pub mod Ascending
pub mod Tally
pub mod Flow
pub mod Search
pub mod Names
pub mod Plain
