pub mod Faults
pub mod Heads
pub mod Machine
pub mod Readers
pub mod Reading
pub mod Steps
