pub mod Record
pub mod Walk
pub mod Text
pub mod Search
pub mod Encode
