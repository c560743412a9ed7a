-- Repairs of images.

-- Cited above: the repair plan, and when an image is a repair of another
pub mod Nets
pub mod Plans
pub mod Repairs
-- For the bodies of this crate
pub mod Marks
pub mod Groups
pub mod Making
