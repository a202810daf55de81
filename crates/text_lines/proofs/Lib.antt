pub mod WordsFound
pub mod Digits
pub mod FirstEnd
pub mod LinesTaken
pub mod KeptStates
pub mod PrintedWords
