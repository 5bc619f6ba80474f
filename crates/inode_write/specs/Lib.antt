pub mod Write
pub mod Calls
