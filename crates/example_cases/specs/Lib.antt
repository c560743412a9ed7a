-- What the boards and rigs of these examples mean.
pub mod LateBoards
pub mod MemoryBoards
pub mod Talks
