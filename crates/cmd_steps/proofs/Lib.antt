-- What is cited above.
pub mod WriteLemmas
pub mod VectorLemmas
pub mod InputLemmas
pub mod Following
pub mod Leading
pub mod EndLemmas
pub mod ShapeLemmas
pub mod StartLemmas
pub mod Excused
pub mod Counting
pub mod Taking
pub mod Reading
pub mod Machines
pub mod Standing
pub mod Done
pub mod JobLemmas
pub mod Prompt
pub mod WrittenRows
pub mod OpenedRows
pub mod OpenedLaws
pub mod Making
pub mod Keeping
pub mod Well
pub mod AttachedReads
pub mod RigFails
pub mod QuietJobs
pub mod Exits
pub mod Sure
pub mod Values
pub mod ListFiles
pub mod AskedLemmas
pub mod TextLemmas
pub mod Logs
-- For the proofs of this crate alone.
mod CutRows
mod AttachLemmas
mod TookLemmas
mod Vocabulary
