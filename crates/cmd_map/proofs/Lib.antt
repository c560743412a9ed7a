-- For the proofs of this crate alone.
mod MapLemmas
mod MapLaws
mod Headlines
mod Fronts
mod ChainLemmas
mod Vocabulary
