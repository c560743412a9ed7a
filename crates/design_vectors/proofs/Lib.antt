-- Vector files read in pieces, and rows written.
mod TextLemmas
mod LineLemmas
mod InsideLemmas
mod StepLemmas
mod FeedLemmas
mod ReadLemmas
-- ---- cited above
pub mod OpenLemmas
mod Vocabulary
