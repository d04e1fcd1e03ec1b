pub mod Adding
pub mod Changing
