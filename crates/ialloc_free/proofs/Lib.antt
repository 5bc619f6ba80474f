pub mod FreeLaws
