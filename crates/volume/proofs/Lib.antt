pub mod Laws
pub mod SignedLaws
pub mod HeaderLaws
