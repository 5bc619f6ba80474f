pub mod Clauses
pub mod Sound
pub mod Test
