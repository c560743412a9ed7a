use Rattle.diag_sweep.proofs.Vocabulary.{◌≡◌, take, All, map, IsFoot, pin_at}
use Rattle.diag_sweep.proofs.footing.pins_over.Given as goal

abbrev pub invariant-feet : goal.invariant-feet
invariant-feet l = record {
  each : All (IsFoot l.forest) (take l.k l.feet.items);
  pins : l.pins.items ≡ map (pin_at l.forest) (take l.k l.feet.items);
}
