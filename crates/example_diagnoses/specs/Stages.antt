-- What a diagnosis has of a machine between two calls.
use Rattle.std.specs.Prelude.{◌≡◌}
use Rattle.machine_shape.specs.declared.Shape.{Shape}
use Rattle.diag_sweep.specs.{Shown.IsCoherent, declared.knowledge.Knowledge.Knowledge}

-- it is of this machine, and coherent
pub record IsStageOf (m : Shape) (s : Knowledge) : Type 0 where
  pub shape : s.facts.shape ≡ m
  pub coherent : IsCoherent s
