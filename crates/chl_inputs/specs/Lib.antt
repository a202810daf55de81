pub mod Stops
pub mod Inputs
pub mod Stages
