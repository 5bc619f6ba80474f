pub mod SlotLaws
pub mod RecordLaws
pub mod ReadLaws
pub mod HeaderLaws
