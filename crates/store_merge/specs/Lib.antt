pub mod Choice
pub mod Stacking
pub mod Bringing
pub mod Refusals
pub mod Copying
pub mod Inputs
pub mod Merge
