pub mod Entries
pub mod Fields
pub mod HexLines
pub mod LaterBytes
pub mod LinesLeft
pub mod Loaded
pub mod Neighbours
pub mod OneImage
pub mod Places
pub mod ReadBack
pub mod Rows
pub mod Runs
pub mod LineEnds
mod LongestRuns
