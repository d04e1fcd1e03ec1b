pub mod StringMeaning
pub mod Elements
pub mod StringLaws
