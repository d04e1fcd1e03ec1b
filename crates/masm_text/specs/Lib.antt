pub mod UserLines
