pub mod Turns
pub mod Pins
