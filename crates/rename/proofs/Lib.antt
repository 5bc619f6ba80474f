pub mod RenameLaws
pub mod Theorems
