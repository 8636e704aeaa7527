pub mod TxLines
pub mod Texts
pub mod Logs
pub mod Facts
pub mod Frames
pub mod Moves
pub mod Sends
pub mod Judged
pub mod Entries
pub mod Lands
pub mod Outputs
pub mod Others
pub mod Taking
pub mod Beginning
pub mod Growth
pub mod Run
pub mod Grows
pub mod Claims
pub mod Messages
pub mod Transfer
pub mod Parts
pub mod Operators
mod Rows
mod WrongBodies
