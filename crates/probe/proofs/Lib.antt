mod Turns
mod Rows
pub mod AddingUp
pub mod Counting
pub mod Made
mod Lines
pub mod Numbers
pub mod Tallying
mod Standing
mod Changing
mod Copies
mod Places
mod Hearing
mod Meeting
mod Searching
mod Probes
mod Passing
mod AsDebugger
mod Walking
mod Waiting
mod Ending
mod Ranges
mod Once
mod Trying
mod Labs
