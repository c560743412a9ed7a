-- Cited above: room, plans and layouts
pub mod Lists
pub mod Strands
pub mod Room
pub mod Choices
pub mod Layouts
pub mod Plans
pub mod Terminals
pub mod Choosing
pub mod Laying
-- For the bodies of this crate
pub mod Trees
pub mod Touches
pub mod Search
pub mod Taps
-- When there is room for certain.
pub mod Enough
pub mod Vocabulary
