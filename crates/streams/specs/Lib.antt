pub mod ByteInput
pub mod FileLists
pub mod InTurn
