pub mod ModifyLaws
