pub mod Ends
pub mod Lands
pub mod Plain
