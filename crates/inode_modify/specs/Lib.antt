pub mod Modify
