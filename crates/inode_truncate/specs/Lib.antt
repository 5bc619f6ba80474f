pub mod Truncate
