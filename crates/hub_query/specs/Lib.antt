pub mod Meant
pub mod Paths
pub mod Laws
pub mod HubTables
pub mod Parts
