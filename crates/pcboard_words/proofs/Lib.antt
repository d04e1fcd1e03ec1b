pub mod Matches
pub mod Rows
pub mod Values
pub mod ProbeMatches
pub mod Files
