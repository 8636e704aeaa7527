pub mod Kinds
pub mod Trace
