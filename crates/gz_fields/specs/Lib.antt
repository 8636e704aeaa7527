pub mod Outcomes
pub mod Paths
pub mod Form
pub mod Names
pub mod Lists
pub mod Behind
