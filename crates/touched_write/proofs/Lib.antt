pub mod FreeLaws
pub mod GoesLaws
pub mod ApartLaws
pub mod SetStores
pub mod WriteStores
pub mod Theorems
