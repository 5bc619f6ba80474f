pub mod FreshLaws
pub mod CountsLaws
pub mod RecountLaws
