pub mod Laying
pub mod RamRom
pub mod Writes
pub mod Eight
