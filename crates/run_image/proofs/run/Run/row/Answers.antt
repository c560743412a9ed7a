use Rattle.run_image.proofs.Vocabulary.{◌<◌, length, All-right}
use Rattle.run_image.proofs.Together.{pairs-left}
use Rattle.run_image.proofs.run.Run.row.Goals as goal

pub put_vector-requires-clause-apart : goal.put_vector-requires-clause-apart
put_vector-requires-clause-apart g c = rw c.deref.ensures.value (pairs-left c.self.inside.inputs.items c.self.inside.outputs.items c.self.invariant.0.apart)

pub read_pins-requires-clause-below : goal.read_pins-requires-clause-below
read_pins-requires-clause-below g c = rw (c.deref-in-Ok.ensures.value, c.cycle.ensures.length, c.self.invariant.1) (All-right (λ k. k < length c.self.inside.drive) c.self.inside.inputs.items c.self.inside.outputs.items c.self.invariant.0.within)
