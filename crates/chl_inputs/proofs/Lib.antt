pub mod ToldChanges
pub mod StagesInTurn
pub mod StageLaws
pub mod InputFacts
