pub mod StoreLaws
pub mod WhereLaws
pub mod CutLaws
pub mod ActLaws
pub mod OnlyLaws
pub mod AlwaysLaws
