pub mod FileTables
pub mod InputLemmas
