pub mod GivenLemmas
pub mod MergedLemmas
pub mod RoundTripLemmas
