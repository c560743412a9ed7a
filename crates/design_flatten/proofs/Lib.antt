-- Lines that use models, their replacement, and what is read from the lines then.
pub mod NameLemmas
pub mod SubstitutionLemmas
mod FirstLemmas
mod OrderLemmas
mod SignalsLemmas
mod MarkLemmas
mod NotedLemmas
mod UseLemmas
mod FormalLemmas
mod RuleLemmas
mod LinkLemmas
mod FrameLemmas
mod WorkLemmas
mod ClockLemmas
mod PrintLemmas
mod ReadLemmas
mod KnownLemmas
mod LeanLemmas
mod BodyLemmas
mod FitLemmas
mod CountLemmas
mod DriveLemmas
mod SinkLemmas
mod WordLemmas
mod MadeLemmas
mod Vocabulary
