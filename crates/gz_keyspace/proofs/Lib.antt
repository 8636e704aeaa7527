pub mod FormatLemmas
pub mod IdLemmas
pub mod KeyLemmas
pub mod MirrorLemmas
pub mod PrintLemmas
pub mod RowLemmas
pub mod SortLemmas
pub mod SpaceLemmas
