-- What faults touch, and what they leave.
mod Marking
mod Touching
mod Leaving
