-- Texts of a design that another program may read in its place.
pub mod Remapped
