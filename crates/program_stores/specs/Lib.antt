pub mod Given
pub mod Merged
pub mod Printed
