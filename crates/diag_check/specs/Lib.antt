-- What crates above cite: when an image runs soundly, what has to be kept for that, and its used wires.
pub mod Soundly
pub mod Used
-- For this crate's bodies alone.
pub mod Marks
pub mod Picked
pub mod Skeleton
pub mod Fields
pub mod Near
pub mod Looks
