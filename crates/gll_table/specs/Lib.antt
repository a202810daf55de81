pub mod Partition
pub mod Outputs
pub mod Tables
pub mod Tasks
