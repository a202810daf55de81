pub mod RowFacts
pub mod Searched
pub mod Ways
pub mod Walked
pub mod Told
pub mod OneTrace
pub mod EachTrace
