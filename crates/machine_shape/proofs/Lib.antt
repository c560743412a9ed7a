-- What is cited above.
pub mod Crossings
pub mod Sites
pub mod Totals
pub mod Ample
pub mod Hextants
pub mod Naming
pub mod ShortNames
pub mod PlainNames
pub mod Full
pub mod Halves
pub mod Decimals
pub mod HighLimits
pub mod OneShape
-- For the proofs of this crate alone.
mod Walks
mod Ways
mod Taps
mod Numbering
mod InRows
mod Meanings
mod Homed
mod Tapped
mod Parents
mod Running
mod Weighing
mod Barred
mod Whereabouts
mod Meeting
mod Dotted
mod Readable
mod Called
mod CalledTables
mod OneName
mod TapsAndLines
mod PartNames
mod Sums
mod Vocabulary
