pub mod NameOrder
pub mod ListLemmas
pub mod EndLemmas
pub mod Tops
pub mod CoverLemmas
pub mod Digits
pub mod Spelled
pub mod NameTexts
