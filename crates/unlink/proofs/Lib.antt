pub mod UnlinkLaws
pub mod Theorems
