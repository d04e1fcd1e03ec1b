pub mod Kept
pub mod Memory
pub mod Locations
pub mod Related
