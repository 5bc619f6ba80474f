pub mod Marks
pub mod Choose
pub mod Give
