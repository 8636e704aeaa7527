pub mod Strangers
pub mod Leading
pub mod Appending
pub mod Committing
mod Rows
mod Kept
mod Lost
mod Tells
