mod Parting
mod Gathering
mod Folding
pub mod Weights
mod Around
pub mod Alike
mod EachTerms
mod EachLists
mod EachOperands
mod EachItems
mod EachLines
mod OneSpelling
mod Rows
mod BackTerms
mod BackOperands
mod BackLines
