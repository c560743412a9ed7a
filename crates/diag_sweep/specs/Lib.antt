pub mod Marks
pub mod Shown
pub mod Without
-- For this crate's bodies alone.
pub mod Stages
pub mod Sights
pub mod Courses
pub mod Sheets
pub mod Views
