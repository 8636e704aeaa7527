pub mod Outcomes
pub mod Refusals
pub mod Events
pub mod Lawful
pub mod Printed
