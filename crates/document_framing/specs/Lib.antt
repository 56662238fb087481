pub mod Feeding
pub mod Forms
pub mod Framings
pub mod Inputs
pub mod Laws
pub mod Taking
