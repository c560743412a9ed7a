pub mod Narrowing
mod Cycling
