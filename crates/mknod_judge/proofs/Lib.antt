pub mod MakeLaws
pub mod PassedLaws
pub mod Theorems
