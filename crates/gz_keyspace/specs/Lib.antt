pub mod Formats
pub mod Keys
pub mod Mirrors
pub mod Outcomes
pub mod Rows
pub mod Space
pub mod Table
