mod Keeping
mod Laying
mod Finding
mod Vocabulary
