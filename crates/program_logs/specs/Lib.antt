pub mod Appended
pub mod Given
