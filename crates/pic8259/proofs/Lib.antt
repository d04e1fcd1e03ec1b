pub mod Order
pub mod Walk
pub mod Places
pub mod OrderWhole
pub mod Taking
pub mod Masks
pub mod Edges
pub mod Inhibited
pub mod Words
mod Rows
