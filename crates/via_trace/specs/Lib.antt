pub mod Traces
pub mod Laws
