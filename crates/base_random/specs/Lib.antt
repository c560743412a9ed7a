-- Chance.
pub mod Draws
