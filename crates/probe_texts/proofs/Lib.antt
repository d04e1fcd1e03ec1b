pub mod Registers
pub mod Loading
pub mod Listing
pub mod Asking
pub mod Hearing
pub mod Clocks
pub mod Pieces
