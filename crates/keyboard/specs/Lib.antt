pub mod Keyboard
pub mod QueueParts
pub mod Runs
