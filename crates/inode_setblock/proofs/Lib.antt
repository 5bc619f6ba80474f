pub mod GivenLaws
pub mod SetLaws
pub mod SetKeeps
