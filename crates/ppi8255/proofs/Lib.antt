pub mod PortLaws
mod Rows
