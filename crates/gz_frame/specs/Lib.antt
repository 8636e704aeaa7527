pub mod Messages
pub mod Line
pub mod Release
pub mod Frame
pub mod Text
pub mod Reading
