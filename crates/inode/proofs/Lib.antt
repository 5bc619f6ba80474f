pub mod SizeLaws
pub mod KindLaws
pub mod ReadLaws
pub mod HeaderLaws
pub mod PlaceLaws
