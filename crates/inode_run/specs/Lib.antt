pub mod Judge
pub mod Find
pub mod Run
