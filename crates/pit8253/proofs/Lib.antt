pub mod Counts
pub mod Falls
pub mod TwoKinds
pub mod Latches
pub mod PitTicks
pub mod ReadBack
pub mod Ticking
pub mod Told
pub mod Waits
pub mod Waves
pub mod Ahead
pub mod Until
pub mod GateKept
pub mod Shorter
pub mod Numbers
mod Rows
