-- Networks of tables.

-- Cited above: what a network is and does, the plain network, how deep it is, tables that are put into their readers, and those
-- that an output needs
pub mod Networks
pub mod Rows
pub mod Depths
pub mod Plain
pub mod Merging
pub mod Joining
pub mod Compacting
pub mod Leading
pub mod Merges
-- For the bodies of this crate
pub mod Levels
pub mod Cells
pub mod Sizes
pub mod Drives
pub mod Bounds
pub mod Passes
pub mod Spreading
pub mod Pruning
pub mod Vocabulary
