mod RepeatedNodes
pub mod Fields
pub mod Rising
pub mod OneMore
pub mod RowsWithVias
pub mod SoundFields
pub mod SoundBytes
pub mod Sizes
pub mod Layouts
pub mod SoundIndexes
pub mod Steps
pub mod PutAfter
pub mod CutBytes
pub mod RowRuns
pub mod RowParts
