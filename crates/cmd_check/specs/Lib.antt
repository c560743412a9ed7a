-- The command that tells whether an image still runs on a machine of the rig.

-- ---- cited above

pub mod Answers
pub mod Testing
pub mod Check
pub mod Headline
pub mod Promises
