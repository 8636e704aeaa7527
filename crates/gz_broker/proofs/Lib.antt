pub mod Strangers
pub mod Rows
mod Order
mod Kept
