pub mod MakeLaws
pub mod Theorems
