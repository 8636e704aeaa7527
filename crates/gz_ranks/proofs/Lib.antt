pub mod NumberLemmas
pub mod Tops
