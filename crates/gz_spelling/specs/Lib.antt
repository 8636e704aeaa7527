pub mod Messages
pub mod Table
pub mod Wire
