-- Lines read one after another, and what they spell.
mod NamesLemmas
mod GrammarLemmas
mod StateLemmas
mod ModelsLemmas
pub mod RightLemmas
mod RunLemmas
pub mod DesignLemmas
mod RowLemmas
mod SizeLemmas
mod HeadLemmas
mod Vocabulary
