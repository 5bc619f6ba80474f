pub mod Frame
pub mod Writes
