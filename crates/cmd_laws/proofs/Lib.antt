-- For the laws of this crate alone.
mod Bearing
