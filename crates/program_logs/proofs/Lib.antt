pub mod AppendLemmas
pub mod PrintLemmas
