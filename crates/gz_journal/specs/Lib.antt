pub mod JournalList
pub mod Laws
pub mod Places
