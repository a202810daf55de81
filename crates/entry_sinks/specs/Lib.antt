pub mod RangeEntries
pub mod Sunk
pub mod Laws
