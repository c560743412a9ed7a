pub mod Adding
pub mod Heads
pub mod Refusals
pub mod Stored
pub mod Text
pub mod Written
