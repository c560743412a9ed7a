-- What the generated design is.
pub mod Design
-- The command that runs generated work on a generated machine.
pub mod Summary
pub mod Bench
pub mod Headline
pub mod Promises
