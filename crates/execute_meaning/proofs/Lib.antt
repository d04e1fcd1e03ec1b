pub mod Writes
pub mod Order
mod Rows
mod Counted
pub mod Related
pub mod Commutes
