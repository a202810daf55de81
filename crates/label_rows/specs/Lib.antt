pub mod Lawful
pub mod Laws
pub mod Seats
pub mod Visits
