pub mod Packing
pub mod Printing
