use Rattle.design_eval.proofs.Vocabulary.{ℕ, take, Contains, HaveKeys}
use Rattle.design_eval.proofs.readers.push_latches.Given as goal

abbrev pub invariant-reads : goal.invariant-reads
invariant-reads l = ((key : ℕ) → Contains l.fn.keys.items key → Contains l.keys.items key) × HaveKeys l.first (take l.k l.reads) l.keys.items
