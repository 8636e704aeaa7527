pub mod Committed
pub mod Parts
pub mod Machine
pub mod Calls
pub mod Transactions
