pub mod Views
pub mod Stages
