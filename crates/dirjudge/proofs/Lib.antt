pub mod JudgeLaws
pub mod DirLaws
pub mod Theorems
