pub mod Driven
mod Logging
pub mod OneByOne
mod SameSets
mod Vocabulary
