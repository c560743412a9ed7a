-- Runs of images.
pub mod Driven
pub mod Batches
pub mod Pins
pub mod Run
pub mod Copying
-- ---- cited above
pub mod Rows
pub mod Laid
pub mod Runs
pub mod Headline
-- ---- of the bodies of this crate
pub mod Running
