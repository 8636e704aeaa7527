pub mod Loop
pub mod LabelSets
pub mod Widths
pub mod Codec
pub mod Values
