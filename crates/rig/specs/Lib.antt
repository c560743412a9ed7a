-- What a rig is to the code above it.
pub mod Flaky
pub mod Names
pub mod Rig
