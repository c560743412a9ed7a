-- Two designs side by side on what a list of defects leaves free.
pub mod Both
pub mod Alone
pub mod Smaller
