pub mod Below
pub mod Maps
pub mod Printing
pub mod Again
