pub mod Volume
pub mod Signed
