-- The command that runs one design twice on a machine of the rig.
pub mod Twice
pub mod Headline
pub mod Promises
