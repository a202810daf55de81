pub mod Carried
pub mod NewNumbers
pub mod RowsBack
pub mod LabellingBack
