pub mod Hubs
pub mod OpenArcs
pub mod Opened
