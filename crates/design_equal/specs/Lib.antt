pub mod Graphs
pub mod Labels
pub mod Plans
pub mod Products
