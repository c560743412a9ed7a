pub mod Laid
pub mod Found
