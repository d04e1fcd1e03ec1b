pub mod Source
pub mod Timer
