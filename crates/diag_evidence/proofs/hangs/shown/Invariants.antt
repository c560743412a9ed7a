use Rattle.diag_evidence.proofs.Vocabulary.{◌≡◌, take, filter, overs, is_shown}
use Rattle.diag_evidence.proofs.hangs.shown.Given as goal

abbrev pub invariant-hangs : goal.invariant-hangs
invariant-hangs l = l.feet.items ≡ overs (filter (is_shown l.forest l.hangs l.reads.rows l.without.rows) (take l.k l.hangs))
