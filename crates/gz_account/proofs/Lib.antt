pub mod Releases
pub mod Listed
pub mod Folds
pub mod Accounts
pub mod ReadBack
