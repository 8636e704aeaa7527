pub mod Datas
pub mod Prefixes
pub mod LabelsBack
pub mod Depths
pub mod SpecsBack
