pub mod PrintedLemmas
pub mod StoreLemmas
