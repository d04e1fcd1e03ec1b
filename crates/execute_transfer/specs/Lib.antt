pub mod TransferMeaning
pub mod TransferLaws
