pub mod Counting
pub mod Drawing
pub mod EachSeat
pub mod Seating
