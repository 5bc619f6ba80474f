pub mod RunLaws
pub mod WriteLaws
pub mod WriteKeeps
pub mod BlocksKeep
pub mod CallLaws
pub mod Theorems
