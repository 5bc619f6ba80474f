pub mod TakeLaws
pub mod SameLaws
