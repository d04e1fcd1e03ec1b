pub mod Beginning
pub mod Entries
pub mod KeyOrder
pub mod Rounds
pub mod Lines
pub mod Leap
pub mod Alone
pub mod Uneventful
pub mod Unseen
pub mod Passing
pub mod Acting
pub mod BySlots
pub mod Quiet
pub mod Coded
pub mod Steps
pub mod IpRange
pub mod Rooms
pub mod Ticking
pub mod Search
pub mod Stopped
pub mod Idle
pub mod Turns
pub mod Works
pub mod Inserting
mod Stores
pub mod Latest
pub mod OneTurn
pub mod StillSteps
mod Shading
pub mod BlockSteps
pub mod BlockArms
mod SameRegisters
mod StillChips
mod Repeated
mod Standing
mod Countdowns
mod Waits
mod SlotLength
