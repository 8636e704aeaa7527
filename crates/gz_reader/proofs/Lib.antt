pub mod Updates
pub mod Appends
pub mod Growing
pub mod Coded
pub mod Numbers
pub mod Texts
