pub mod FeedLemmas
pub mod LawLemmas
pub mod LengthLemmas
pub mod PieceLemmas
