pub mod Give
