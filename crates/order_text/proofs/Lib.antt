pub mod OrderNodes
