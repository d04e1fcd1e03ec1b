pub mod Exchange
pub mod Halves
pub mod Kept
pub mod Stack
pub mod Related
