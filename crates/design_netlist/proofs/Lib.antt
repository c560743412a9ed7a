-- What is cited above.
pub mod OrderLemmas
pub mod ListLemmas
pub mod WalkLemmas
pub mod ValuationLemmas
pub mod EvalLemmas
pub mod WordLemmas
pub mod CheckLemmas
pub mod RightLemmas
pub mod MadeLemmas
pub mod BitLemmas
pub mod LaneLemmas
-- For the proofs of this crate alone.
mod SearchLemmas
mod StepLemmas
mod CycleLemmas
mod NameLemmas
mod Vocabulary
