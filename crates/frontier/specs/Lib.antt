pub mod Places
pub mod Reaches
pub mod Touched
pub mod HeapEntryLists
pub mod HeapEntryOf
pub mod HeapEntries
