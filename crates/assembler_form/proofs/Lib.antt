pub mod First
pub mod Shapes
pub mod FieldRanges
pub mod Alike
