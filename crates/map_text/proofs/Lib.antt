-- For the proofs of this crate alone.
mod RemapLemmas
mod NameLemmas
