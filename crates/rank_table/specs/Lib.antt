pub mod ByDegree
pub mod DegreeLaws
