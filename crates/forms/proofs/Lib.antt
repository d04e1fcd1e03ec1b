mod Clocks
pub mod Places
pub mod NoMore
pub mod Spared
pub mod Others
pub mod StackMoves
pub mod Leading
pub mod Reaching
