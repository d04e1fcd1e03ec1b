pub mod Codes
pub mod LastEntries
pub mod Runs
pub mod Stopping
pub mod Clocks
pub mod Quiet
pub mod LeastNumbers
pub mod Predicted
pub mod Writable
pub mod Requests
pub mod Wires
pub mod Joining
pub mod Working
pub mod Changing
mod Rows
