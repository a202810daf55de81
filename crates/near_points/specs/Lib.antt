pub mod Nearest
pub mod PointSets
pub mod PointWords
pub mod Merging
pub mod HitLists
pub mod Laws
