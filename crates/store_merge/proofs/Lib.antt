pub mod CopyLemmas
pub mod TakeLemmas
pub mod MergeLemmas
pub mod HonestLemmas
pub mod EndLemmas
pub mod StackedLemmas
pub mod PartLemmas
