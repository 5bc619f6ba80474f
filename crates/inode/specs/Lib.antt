pub mod Size
pub mod Shape
pub mod Places
pub mod Kind
