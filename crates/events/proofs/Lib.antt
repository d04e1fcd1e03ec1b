pub mod Noted
pub mod Few
pub mod Queue
mod Parts
pub mod Told
pub mod Keyed
pub mod KeyToCome
pub mod Turning
mod Settled
pub mod Dating
pub mod Rising
pub mod KeyPlaces
pub mod Reaching
mod Shadows
