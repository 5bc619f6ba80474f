pub mod Attr
