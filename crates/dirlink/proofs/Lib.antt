pub mod LinkLaws
pub mod LinkKeeps
