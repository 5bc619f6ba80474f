pub mod Store
pub mod Where
pub mod Act
