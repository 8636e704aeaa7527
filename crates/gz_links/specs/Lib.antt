pub mod Outcomes
pub mod Links
pub mod Cycles
pub mod Levels
pub mod Whole
pub mod Joins
