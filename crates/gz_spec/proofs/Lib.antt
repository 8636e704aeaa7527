pub mod Apps
pub mod Readable
pub mod Sound
