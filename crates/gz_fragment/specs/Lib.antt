pub mod Names
pub mod Fragments
pub mod Trees
pub mod Ends
pub mod Outcomes
