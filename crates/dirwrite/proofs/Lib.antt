pub mod WriteLaws
pub mod WriteKeeps
