pub mod Floats
pub mod Folds
