pub mod Words
pub mod Judgement
pub mod TextReading
pub mod JudgedLines
pub mod ReadingLaws
