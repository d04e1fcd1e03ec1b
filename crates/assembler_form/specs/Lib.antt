pub mod Asked
pub mod Takes
pub mod Kinds
pub mod OperandBytes
pub mod Choice
pub mod Fields
pub mod FormLaws
