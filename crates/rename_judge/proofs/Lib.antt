pub mod RenameLaws
pub mod VerdictLaws
pub mod ToldLaws
