pub mod QuietChips
pub mod Lag
