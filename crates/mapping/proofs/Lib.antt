pub mod ZoneLaws
pub mod MappingLaws
pub mod HeaderLaws
