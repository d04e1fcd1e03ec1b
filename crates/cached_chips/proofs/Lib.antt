pub mod Kept
pub mod Cells
pub mod Quiet
pub mod Lag
pub mod AtSeenClock
pub mod Controller
mod SameBytes
mod Guarded
mod Codes
