pub mod Planted
pub mod Relaxed
pub mod Wanted
