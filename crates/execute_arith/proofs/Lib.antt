pub mod Kept
pub mod Decimal
pub mod InAl
pub mod Order
pub mod Runs
pub mod Powers
mod Places
pub mod Turns
pub mod Rotations
pub mod Calculated
pub mod Unsigned
pub mod Signs
pub mod Signed
mod Rows
pub mod Related
