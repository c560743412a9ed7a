mod Seating
mod Counted
mod BetterLemmas
mod Vocabulary
