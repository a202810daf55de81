pub mod ReadingLemmas
pub mod TakesLemmas
pub mod FileLemmas
pub mod LineCuts
pub mod LineEnds
