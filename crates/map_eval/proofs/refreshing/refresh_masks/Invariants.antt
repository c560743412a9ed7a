use Rattle.map_eval.specs.Starting.{HaveMasksTo}
use Rattle.map_eval.proofs.refreshing.refresh_masks.Given as goal

abbrev pub invariant-tables : goal.invariant-tables
invariant-tables l = HaveMasksTo l.tables l.values l.j l.masks
