pub mod KeptEntries
pub mod YesterdaysRows
pub mod OpenedRows
pub mod LongerGraphs
pub mod HubGroups
