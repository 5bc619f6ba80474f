pub mod Record
pub mod Walk
pub mod Search
pub mod Write
pub mod Link
pub mod Shown
