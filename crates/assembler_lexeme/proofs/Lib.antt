mod Wording
pub mod Gathering
pub mod Folding
pub mod Weights
pub mod Scanning
