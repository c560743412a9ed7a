-- The mapper's program.

-- ---- cited above

pub mod Maps
pub mod Headline
pub mod Words
pub mod Promises
pub mod Chain
