pub mod NodesText
pub mod OrderLaws
pub mod OrderText
