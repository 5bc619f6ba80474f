pub mod NamesLaws
pub mod Theorems
