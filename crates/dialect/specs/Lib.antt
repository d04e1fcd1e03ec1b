pub mod Mnemonics
pub mod Words
pub mod Names
pub mod DialectLaws
