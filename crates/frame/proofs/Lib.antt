pub mod Places
pub mod Stores
pub mod SoundKept
pub mod WriteLaws
