pub mod ShrinkLaws
