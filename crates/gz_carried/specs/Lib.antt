pub mod Keys
pub mod Carried
pub mod Events
