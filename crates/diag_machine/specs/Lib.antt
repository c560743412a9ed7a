-- What crates above cite.
pub mod Diagnosis
-- For this crate's bodies alone.
pub mod Listing
pub mod Stages
pub mod Choice
