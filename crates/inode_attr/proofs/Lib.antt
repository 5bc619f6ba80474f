pub mod AttrLaws
