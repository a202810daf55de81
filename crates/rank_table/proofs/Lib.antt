pub mod CountedArcs
pub mod DegreeOrder
pub mod DegreeRankings
