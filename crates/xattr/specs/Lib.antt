pub mod Area
pub mod Calls
