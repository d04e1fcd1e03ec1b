mod Looking
mod Read
pub mod Once
