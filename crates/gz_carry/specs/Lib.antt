pub mod Seen
pub mod Histories
pub mod Carried
pub mod Taking
