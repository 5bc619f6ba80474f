pub mod RmdirLaws
pub mod Theorems
