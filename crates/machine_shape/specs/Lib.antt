-- What public contracts say, and what is cited above.
pub mod Walk
pub mod Counts
pub mod Shape
pub mod Limits
pub mod Bounds
pub mod Said
pub mod Names
pub mod Laws
pub mod PartNames
pub mod Rows
pub mod Sites
pub mod Sums
-- For the bodies of this crate alone.
pub mod Kinds
pub mod Bars
pub mod Weights
pub mod Reading
pub mod Vocabulary
