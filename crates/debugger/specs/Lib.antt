pub mod CopiesWithKey
