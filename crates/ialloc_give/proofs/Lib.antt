pub mod MarkLaws
pub mod ChooseLaws
pub mod GiveLaws
pub mod OutLaws
pub mod Theorems
pub mod AfterLaws
