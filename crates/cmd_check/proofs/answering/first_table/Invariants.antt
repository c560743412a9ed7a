use Rattle.cmd_check.proofs.Vocabulary.{◌<◌, ℕ, IsSome, IsFreeTable, setting_of}
use Rattle.cmd_check.proofs.answering.first_table.Given as goal

abbrev pub invariant-tables : goal.invariant-tables
invariant-tables l = (u : ℕ) → u < l.t → IsSome (setting_of l.config.config u) → IsFreeTable l.list.shape l.list.list u
