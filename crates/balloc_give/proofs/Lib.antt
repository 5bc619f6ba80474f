pub mod GiveLaws
pub mod Theorems
