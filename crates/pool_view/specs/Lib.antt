pub mod Fitting
pub mod Putting
pub mod Seen
pub mod Viewing
pub mod Chains
pub mod Links
