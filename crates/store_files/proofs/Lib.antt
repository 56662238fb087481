pub mod KnowledgeLemmas
pub mod MarkLemmas
pub mod ByteLemmas
pub mod DiskLemmas
pub mod StepLemmas
pub mod KnownLemmas
pub mod MarkedLemmas
