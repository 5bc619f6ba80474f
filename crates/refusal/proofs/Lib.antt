pub mod RefusalLaws
pub mod ExitLaws
