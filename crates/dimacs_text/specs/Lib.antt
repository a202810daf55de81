pub mod Arcs
pub mod Counted
pub mod EditsText
pub mod GraphText
pub mod PairsText
pub mod PrintedTexts
pub mod Taking
pub mod TextLaws
