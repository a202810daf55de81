pub mod Chains
pub mod Fillings
pub mod Lawful
pub mod Laws
pub mod Layout
pub mod Seats
pub mod Steps
