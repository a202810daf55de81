pub mod GridGraphs
pub mod Laying
pub mod RowTotals
pub mod SideTwo
