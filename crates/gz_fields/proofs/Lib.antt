pub mod Segments
pub mod Counts
pub mod Eachs
pub mod Used
pub mod Readable
