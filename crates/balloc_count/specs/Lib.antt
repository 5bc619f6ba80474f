-- The recount's definitions.
pub mod Recount
