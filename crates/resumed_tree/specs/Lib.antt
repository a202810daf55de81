pub mod Offered
pub mod Resumed
pub mod Taken
