pub mod Renumbered
pub mod Laws
pub mod Copies
