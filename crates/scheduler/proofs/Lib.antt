pub mod Least
mod Rows
