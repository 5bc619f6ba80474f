pub mod UnlinkLaws
pub mod PassedLaws
