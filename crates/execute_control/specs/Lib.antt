pub mod ControlMeaning
pub mod ControlLaws
