use Rattle.map_eval.proofs.Vocabulary.{◌≡◌, take, first_values}
use Rattle.map_eval.proofs.starting.first_values.Given as goal

abbrev pub invariant-tables : goal.invariant-tables
invariant-tables l = l.values.items ≡ first_values (take l.j l.tables)
