pub mod Sizes
pub mod Raster
pub mod Text
pub mod Walk
pub mod Sections
pub mod Lanes
pub mod Keeping
pub mod ScreenLaws
pub mod MarkLaws
mod Rows
