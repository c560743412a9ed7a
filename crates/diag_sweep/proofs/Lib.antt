-- What is cited above.
pub mod Marking
pub mod Cohering
-- For the proofs of this crate alone.
mod Going
mod Paying
mod Budgets
mod Sighting
mod Footed
mod HungOn
mod Learnt
mod Forested
mod Holding
mod Leaving
mod Coursing
mod Led
mod Sheeted
mod Tabled
mod Viewing
mod Chosen
mod Vocabulary
