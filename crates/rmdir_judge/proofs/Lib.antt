pub mod StepLaws
pub mod RmdirLaws
pub mod Theorems
pub mod PassLaws
