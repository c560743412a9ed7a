-- Designs on what a list of defects leaves free.

-- ---- cited above

pub mod Laying
pub mod Smaller
-- ---- of this crate's bodies

pub mod Wants
