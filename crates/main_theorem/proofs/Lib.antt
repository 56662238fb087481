mod IndexLemmas
mod ListLemmas
mod StackingLemmas
