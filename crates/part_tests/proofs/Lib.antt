mod CleanedRows
mod Rests
