-- What is cited above.
pub mod Shapes
pub mod BenchLaws
pub mod Headlines
pub mod Promising
-- For the proofs of this crate alone.
mod Below
mod Text
mod Netlist
mod Checked
mod Parts
mod RunLemmas
mod Following
mod Vocabulary
