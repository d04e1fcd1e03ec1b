pub mod ReadTexts
pub mod Telling
pub mod Unreadable
pub mod Values
