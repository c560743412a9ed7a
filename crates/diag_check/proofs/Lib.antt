-- For the proofs of this crate alone.
mod Marking
mod Adding
mod Using
mod Involving
mod Picking
mod Fielding
mod Covering
mod Building
mod Looking
mod Wholly
mod Ways
mod Surrounding
mod Counting
mod Checking
mod Vocabulary
