pub mod Bodies
pub mod Frames
pub mod HeadLemmas
pub mod Logs
pub mod Scans
pub mod Tails
