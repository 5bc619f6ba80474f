pub mod ZeroLaws
pub mod UnlinkLaws
pub mod BlockLaws
pub mod WalkLaws
pub mod HereLaws
pub mod NamedLaws
pub mod Theorems
