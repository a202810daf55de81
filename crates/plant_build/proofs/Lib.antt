pub mod PlantedRows
pub mod HeldParts
pub mod Balances
pub mod Askings
pub mod HandLists
pub mod Settlings
pub mod Harvests
