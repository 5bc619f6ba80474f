pub mod JudgeLaws
pub mod CallLaws
pub mod FileLaws
pub mod ReachLaws
pub mod ReadLaws
pub mod Theorems
