pub mod Told
pub mod LineLemmas
pub mod ToldLemmas
pub mod ReadLemmas
pub mod FailingLemmas
