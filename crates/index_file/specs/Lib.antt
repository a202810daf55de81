pub mod Layout
pub mod Stored
pub mod Parts
pub mod Judging
pub mod Sound
pub mod Gives
pub mod Cutting
pub mod Laws
