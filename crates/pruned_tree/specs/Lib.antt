pub mod Grown
pub mod Loaded
pub mod Relaxed
pub mod GrownBy
