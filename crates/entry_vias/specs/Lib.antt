pub mod Vias
pub mod RowVias
pub mod ViaRanges
pub mod Laws
pub mod ViaLists
pub mod Slots
