pub mod Zones
pub mod Mapping
