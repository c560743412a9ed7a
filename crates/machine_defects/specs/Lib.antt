pub mod Faults
pub mod Kept
pub mod Lists
pub mod Steps
pub mod Text
pub mod Vocabulary
