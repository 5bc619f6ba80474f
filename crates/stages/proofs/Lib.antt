pub mod StagesLaws
pub mod Theorems
