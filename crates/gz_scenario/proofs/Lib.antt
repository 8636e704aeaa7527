pub mod Floats
pub mod Joiners
pub mod Again
pub mod NotEmpty
pub mod Strings
pub mod Texts
pub mod Accepted
pub mod Refused
