pub mod RecordLaws
pub mod WalkLaws
pub mod TextLaws
pub mod SearchLaws
pub mod EncodeLaws
pub mod HeaderLaws
pub mod Theorems
