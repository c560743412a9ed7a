-- The command that runs an image on a machine of the rig.

-- ---- cited above

pub mod Run
pub mod Headline
pub mod Promises
