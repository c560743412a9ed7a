-- Lists of which the last test has ended too.
pub mod Settled
