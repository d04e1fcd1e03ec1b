pub mod Regions
pub mod Map
pub mod MapCells
pub mod MapLayout
pub mod MemoryLaws
