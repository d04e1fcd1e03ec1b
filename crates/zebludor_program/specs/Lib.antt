pub mod Buffers
pub mod Owned
pub mod Programs
pub mod RunOutcomes
pub mod Sessions
pub mod Translations
