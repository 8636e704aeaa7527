pub mod Exits
pub mod Failing
