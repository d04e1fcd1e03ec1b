pub mod Program
pub mod Counter
pub mod Pit
pub mod PitLaws
pub mod Ahead
pub mod PitNumbers
pub mod Laws8254
