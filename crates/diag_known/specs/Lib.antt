-- What commands cite: known wires, routes over them, when they are closed in a field, and what marks gain.
pub mod Known
pub mod Routes
pub mod Field
pub mod Gains
-- For the bodies of this crate and of those on it.
pub mod Descents
pub mod Ways
pub mod Grounds
pub mod Around
pub mod Linked
pub mod Ranks
-- What is reached, what trials tell, and what marks stand for.
pub mod Reaches
pub mod Trials
pub mod Offers
pub mod Marked
pub mod Vocabulary
