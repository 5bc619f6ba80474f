pub mod LayoutLaws
pub mod MacroLaws
pub mod BitLaws
pub mod MapLaws
pub mod BlockLaws
