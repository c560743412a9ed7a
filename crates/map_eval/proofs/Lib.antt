-- Words, pins and changes of networks that are run.
mod WordLemmas
mod TurnLemmas
mod PinLemmas
mod StateLemmas
mod LatchLemmas
mod RunLemmas
mod SettleLemmas
mod StartLemmas
mod PlaceLemmas
mod BusyLemmas
mod Vocabulary
