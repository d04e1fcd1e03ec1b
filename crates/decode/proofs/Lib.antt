pub mod Lists
pub mod Prefixes
pub mod Pieces
pub mod Exact
pub mod Fronts
pub mod Slots
