pub mod Appending
pub mod Causes
pub mod Printed
pub mod Reading
pub mod Steps
