pub mod BookLaws
pub mod SteadyLaws
pub mod KeepLaws
