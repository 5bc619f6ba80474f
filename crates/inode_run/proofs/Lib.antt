pub mod FindLaws
pub mod RunLaws
