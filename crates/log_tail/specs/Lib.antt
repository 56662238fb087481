pub mod Tail
pub mod Place
pub mod View
pub mod Heads
