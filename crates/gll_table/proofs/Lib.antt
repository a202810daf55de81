pub mod PartEntries
pub mod ListedHubs
pub mod PartLists
pub mod PutBy
pub mod ShardedTables
pub mod PlacedShards
pub mod OutputHubs
pub mod TakenTasks
