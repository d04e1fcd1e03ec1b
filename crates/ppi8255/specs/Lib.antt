pub mod Ppi
pub mod PpiLaws
pub mod PpiNumbers
