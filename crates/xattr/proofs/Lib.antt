pub mod AreaLaws
pub mod WindowLaws
pub mod CallLaws
pub mod ListLaws
pub mod Theorems
