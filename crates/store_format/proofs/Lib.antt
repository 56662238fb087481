pub mod BlockLemmas
pub mod DocumentLemmas
pub mod StoreLemmas
pub mod FooterReadLemmas
pub mod ExtractionLemmas
pub mod FooterHandedLemmas
pub mod FileLemmas
pub mod ApartLemmas
