-- What a machine with parts to spare bears.
pub mod Borne
