pub mod PrintedRows
pub mod PrintedAnswers
pub mod PrintedOrders
pub mod PrintedWalks
pub mod PrintedGrids
pub mod PrintedHits
