pub mod AppendLemmas
pub mod FeedLemmas
pub mod PrintLemmas
pub mod ReadLemmas
