-- The laws of the definitions.
pub mod UptoLaws
pub mod ByteLaws
pub mod BitsLaws
pub mod CountLaws
pub mod ChangeLaws
pub mod HeaderLaws
