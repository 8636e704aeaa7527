pub mod Queues
pub mod Rules
