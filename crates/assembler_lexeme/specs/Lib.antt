pub mod Lexemes
pub mod Numbers
pub mod Faults
pub mod Tokens
