pub mod Apart
pub mod Copies
pub mod Kept
pub mod Order
mod Rows
pub mod Related
