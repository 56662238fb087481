pub mod Index
pub mod Lists
pub mod Stacking
pub mod Want
