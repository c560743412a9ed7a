use Rattle.design_eval.proofs.Vocabulary.{◌≡◌, ◌*◌, ℕ, ◌<◌, length, bit_at, HavePut}
use Rattle.design_eval.proofs.latches.put_changed.Given as goal

abbrev pub invariant-chunks : goal.invariant-chunks
invariant-chunks l = HavePut l.giving.readers.now l.giving.drives.now l.giving.state.now l.fn.last l.fn.marks l.fn.values l.last l.marks l.values × (length l.hints ≡ 1024) × ((j : ℕ) → j < 64 * l.i → j < length l.giving.drives.now → bit_at l.last j ≡ bit_at l.giving.state.now j)
