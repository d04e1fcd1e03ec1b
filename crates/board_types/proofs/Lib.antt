pub mod Iterate
pub mod KeyOrder
pub mod Images
pub mod ImageBytes
mod LineScanning
mod LineEnding
pub mod LineCounting
