pub mod Parts
pub mod PartsOfLabellings
pub mod SunkEntries
