-- What the rigs of the examples do.
pub mod Turns
