pub mod PrintLemmas
pub mod RangeLemmas
pub mod RoundTripLemmas
