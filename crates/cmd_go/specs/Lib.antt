-- The command that runs a design on a machine of the rig.
pub mod Go
pub mod Headline
pub mod Promises
