pub mod Levels
pub mod Masks
pub mod Pic
pub mod AskingLevels
pub mod PicLaws
pub mod EdgeLaws
pub mod Inhibited
pub mod PicNumbers
