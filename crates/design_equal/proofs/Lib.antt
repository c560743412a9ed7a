-- Valuations of a graph, and the rows of designs that are labelled by it.
mod GraphLemmas
mod RowLemmas
-- Words of nodes.
mod PinLemmas
mod PlanLemmas
mod ProductLemmas
mod Vocabulary
