pub mod Operations
pub mod Files
