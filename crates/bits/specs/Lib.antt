-- The rules of the free map and of the inode map.
pub mod Upto
pub mod Bits
