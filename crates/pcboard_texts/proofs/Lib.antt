pub mod Reading
mod Parted
pub mod Refusals
pub mod Listed
pub mod Sessions
pub mod Tasks
pub mod Opening
mod Rows
pub mod Noting
