pub mod Rmdir
