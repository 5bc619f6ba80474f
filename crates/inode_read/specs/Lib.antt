pub mod Read
pub mod Calls
