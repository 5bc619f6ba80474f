pub mod Block
pub mod Seek
