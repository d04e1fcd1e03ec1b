pub mod BusLaws
pub mod Ram
