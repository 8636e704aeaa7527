pub mod IndexLemmas
pub mod Names
