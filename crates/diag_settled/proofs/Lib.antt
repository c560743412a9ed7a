-- What is cited above.
pub mod Settling
