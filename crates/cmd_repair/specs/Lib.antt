-- The command that repairs an image for a machine with defects.

-- ---- cited above

pub mod Repairing
pub mod Repair
pub mod Headline
pub mod Promises
