-- Work that is made from a number.
pub mod Faults
pub mod Left
pub mod Work
