pub mod Free
pub mod Stores
