pub mod Names
pub mod Items
pub mod Labels
pub mod Selectors
pub mod Forms
pub mod Outcomes
