-- What is cited above.
pub mod Number
-- What public contracts say, and what is cited above.
pub mod Bytes
pub mod Faults
pub mod Lines
pub mod Size
pub mod Written
pub mod Vocabulary
