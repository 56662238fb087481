pub mod Calls
pub mod Getting
pub mod Outlines
pub mod Ranges
pub mod Texts
pub mod Writing
pub mod Checking
