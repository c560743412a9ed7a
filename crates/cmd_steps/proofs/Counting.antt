-- Counts that rose, and stops that need one.
use Rattle.std.proofs.Common.{ℕ, List, IsTrue, subst, arith, Result, Ok, Err, IfErr}
use Rattle.base_io.specs.declared.sink.SinkFail.TheVariants.{Failed, Memory}
use Rattle.cmd_steps.proofs.Vocabulary.{Outside, IsLater, IsCounted, WriteStops, Stop, Refused, Sink}
use Rattle.cmd_steps.specs.declared.refusal.Refusal.TheVariants as refused

-- a write that stopped
pub write-counted : (line : List ℕ) (stop : Stop) (old new : Outside) → WriteStops line stop old.sink new.sink → IsCounted ⊥ stop old new
write-counted line (Refused refusal) old new stops = absurd stops
write-counted line (Sink Failed) old new stops = stops.0
write-counted line (Sink Memory) old new stops = stops.0

-- what was used before was counted before
counted-later : (stop : Stop) (old mid new : Outside) → IsLater old mid → IsCounted ⊥ stop mid new → IsCounted ⊥ stop old new
counted-later (Refused refused.Words) old mid new later why = absurd why
counted-later (Refused refused.Rig) old mid new later why = omega (arith, later.rig, why)
counted-later (Refused refused.Store) old mid new later why = omega (arith, later.store, why)
counted-later (Refused refused.Memory) old mid new later why = tt
counted-later (Refused refused.Differ) old mid new later why = tt
counted-later (Refused (refused.Machine line kind)) old mid new later why = tt
counted-later (Refused (refused.Faults line kind)) old mid new later why = tt
counted-later (Refused (refused.Defects line kind)) old mid new later why = tt
counted-later (Refused (refused.Image line kind)) old mid new later why = tt
counted-later (Refused (refused.Design place)) old mid new later why = tt
counted-later (Refused (refused.Vectors line kind)) old mid new later why = tt
counted-later (Refused (refused.Room place)) old mid new later why = tt
counted-later (Sink Failed) old mid new later why = omega (arith, later.sink, why)
counted-later (Sink Memory) old mid new later why = subst (λ k. IsTrue k) later.kind why

pub counted-after : {T : Type 0} (result : Result T Stop) (old mid new : Outside) → IsLater old mid → IfErr result (λ stop. IsCounted ⊥ stop mid new) → IfErr result (λ stop. IsCounted ⊥ stop old new)
counted-after (Ok x) old mid new later why = tt
counted-after (Err stop) old mid new later why = counted-later stop old mid new later why
