pub mod BlockLaws
pub mod SeekLaws
