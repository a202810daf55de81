pub mod Grid
pub mod Laid
pub mod Totals
pub mod Weights
pub mod Worked
