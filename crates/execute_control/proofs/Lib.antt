pub mod Kept
pub mod Loops
pub mod FlagsWord
pub mod StackWords
pub mod Returns
mod Rows
pub mod Related
