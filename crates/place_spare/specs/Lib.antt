-- How many parts a machine has beyond those that are wanted.
pub mod Spare
