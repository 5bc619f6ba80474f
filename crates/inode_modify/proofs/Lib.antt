pub mod ModifyLaws
pub mod Theorems
