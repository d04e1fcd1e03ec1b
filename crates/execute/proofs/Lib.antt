pub mod GoesPlainly
pub mod Elements
mod Again
pub mod Iterating
pub mod BySlot
mod Quiet
pub mod Compared
pub mod Delay
pub mod Countdown
pub mod Shaded
pub mod Effects
pub mod Turn
pub mod TurnOperands
pub mod TurnSteps
