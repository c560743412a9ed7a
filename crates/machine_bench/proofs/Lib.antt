mod Counted
mod Hitting
mod Left
mod Turns
mod Vocabulary
