pub mod TestLaws
pub mod TakeLaws
pub mod MapLaws
pub mod FitLaws
pub mod MostLaws
