pub mod Mda
pub mod Registers
pub mod Screen
pub mod Marks
pub mod Snapshot
pub mod Difference
pub mod MdaLaws
