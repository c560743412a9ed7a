mod PathLemmas
mod SearchLemmas
pub mod CellLemmas
mod TreeLemmas
mod NameLemmas
mod PlainLemmas
mod CoverLemmas
mod DriveLemmas
mod BlockLemmas
mod ValueLemmas
mod OriginLemmas
mod NetworkLemmas
mod ValuationLemmas
mod RowLemmas
mod SourceLemmas
mod JoinLemmas
mod PutLemmas
mod MergeLemmas
pub mod CompactLemmas
mod ReaderLemmas
mod AddressLemmas
mod ComposeLemmas
mod LeadLemmas
mod ReducedLemmas
mod PruneLemmas
mod SpreadLemmas
mod Vocabulary
