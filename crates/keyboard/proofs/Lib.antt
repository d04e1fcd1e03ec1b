pub mod Copied
pub mod Runs
mod Rows
