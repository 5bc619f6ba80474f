pub mod HoldLaws
pub mod PlaceLaws
pub mod ShrinkLaws
pub mod Truncate
