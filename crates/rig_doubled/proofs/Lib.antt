mod Copying
mod Endings
mod Keeping
mod Pairing
mod Repeating
mod Sameness
mod Twinning
mod Vocabulary
