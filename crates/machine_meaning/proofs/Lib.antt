pub mod Clear
pub mod Covered
pub mod Faultless
pub mod JoinedLemmas
pub mod Pairs
pub mod Seats
pub mod Serving
pub mod Values
pub mod ValuesExist
mod Bounded
mod ByList
mod Fairness
mod Faulty
mod Standing
mod Tightness
mod Vocabulary
