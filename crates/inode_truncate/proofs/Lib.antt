pub mod KeepLaws
pub mod ZoneLaws
pub mod RecordLaws
