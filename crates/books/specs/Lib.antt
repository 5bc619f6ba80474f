pub mod Books
pub mod Work
