pub mod Answers
pub mod Lawful
pub mod Laws
pub mod Seats
