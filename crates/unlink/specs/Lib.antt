pub mod Unlink
