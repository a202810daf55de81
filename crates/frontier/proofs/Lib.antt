pub mod KeyLemmas
pub mod PlaceLemmas
pub mod HeapEntryLemmas
