pub mod Fields
pub mod Bits
pub mod ByName
pub mod Reaching
pub mod Ranks
pub mod Whole
pub mod Joining
pub mod Climbs
