-- What a machine does under its faults, and what is said of lists of its defects.
pub mod Faults
pub mod Joined
pub mod Circuit
pub mod Value
pub mod Sound
pub mod Defects
pub mod Served
pub mod Standing
pub mod Tight
pub mod Vocabulary
