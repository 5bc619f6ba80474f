pub mod OtherLaws
pub mod Theorems
