-- What a board is, and what its rig keeps.
pub mod Boards
pub mod Codes
pub mod Device
pub mod Kept
pub mod Linked
pub mod Machines
pub mod Rows
