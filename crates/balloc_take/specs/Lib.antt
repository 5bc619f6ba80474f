pub mod Take
pub mod Run
