pub mod PrintedRanges
pub mod StoresOnDisk
pub mod WordLists
