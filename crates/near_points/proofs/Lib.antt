mod Begun
pub mod HitOrder
mod Members
mod Merges
pub mod NearestPoints
mod WordFacts
mod PointLists
mod HitLists
mod Marks
mod ZippedParts
