-- Routes: from a network and a plan to an image.

-- Cited above: what a right image is, and what a routed one
pub mod RightImages
pub mod RoutedImages
-- Said by the contracts and laws of this crate: a route, and nets on the tree
pub mod Layouts
pub mod Trees
pub mod Routed
pub mod Ticks
-- For the bodies of this crate
pub mod Owners
pub mod Closing
pub mod Vocabulary
