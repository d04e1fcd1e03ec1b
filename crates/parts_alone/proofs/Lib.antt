pub mod Codes
pub mod Ports
pub mod Squares
pub mod Vectors
