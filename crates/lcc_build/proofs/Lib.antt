pub mod DoneShares
pub mod InOrder
pub mod PutsTogether
pub mod SharedRows
