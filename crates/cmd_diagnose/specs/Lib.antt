-- The command that lists the defects of a machine of the rig.

-- ---- cited above

pub mod Diagnose
pub mod Headline
pub mod Promises
