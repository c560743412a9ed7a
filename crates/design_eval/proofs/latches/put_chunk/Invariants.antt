use Rattle.design_eval.proofs.Vocabulary.{◌≡◌, ℕ, ◌<◌, ◌≤◌, length, bit_at, HavePut}
use Rattle.design_eval.proofs.latches.put_chunk.Given as goal

abbrev pub invariant-latches : goal.invariant-latches
invariant-latches l = HavePut l.giving.readers.now l.giving.drives.now l.giving.state.now l.fn.last l.fn.marks l.fn.values l.last l.marks l.values × (length l.hints ≡ 1024) × ((j : ℕ) → l.fn.chunk.from ≤ j → j < l.k → bit_at l.last j ≡ bit_at l.giving.state.now j)
