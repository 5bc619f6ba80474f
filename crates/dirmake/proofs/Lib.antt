pub mod MakeLaws
pub mod MakeKeeps
pub mod SameLaws
