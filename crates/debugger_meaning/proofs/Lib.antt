mod Scanning
mod Counting
pub mod Lines
mod Spelling
mod Reading
mod Parting
mod SpelledCommands
pub mod Keeping
pub mod Standing
pub mod Pieces
pub mod Following
pub mod Returning
pub mod Walking
