use Rattle.design_eval.proofs.Vocabulary.{◌≡◌, ℕ, ◌<◌, length, number_at, IsFrom, Splits}
use Rattle.design_eval.proofs.readers.starts_of.Given as goal

abbrev pub invariant-signals : goal.invariant-signals
invariant-signals l = (length l.starts.items ≡ l.signal) × ((s : ℕ) → s < l.signal → Splits l.keys s (number_at l.starts.items s)) × IsFrom l.keys l.signal l.from
