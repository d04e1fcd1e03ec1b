pub mod Deadlines
pub mod Sooner
