-- Values of signals, tables and latches, one vector or 64 at a time.
mod BitLemmas
mod RunLemmas
mod TableLemmas
mod SmallLemmas
mod TurnLemmas
mod ReaderLemmas
mod MarkLemmas
mod LatchLemmas
mod BlockLemmas
mod TableWordLemmas
mod Vocabulary
