pub mod Words
pub mod Statuses
pub mod Commands
pub mod Outcome
pub mod Laws
