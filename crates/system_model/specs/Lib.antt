pub mod Lists
pub mod Made
pub mod Possible
pub mod Sound
pub mod System
