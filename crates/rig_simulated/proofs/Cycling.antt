-- A whole cycle.
use Rattle.rig_simulated.proofs.Vocabulary.{◌≡◌, ℕ, Bool, List, sym, subst, Outputs, Pins, Faults, Configuration, ClassNode, Gate, IsClear}
use Rattle.rig_simulated.proofs.Vocabulary.{AreOutputs, IsWired, AreDriven, HaveTicked, IsEdge, HasTicked, HasCycled}
use Rattle.rig_simulated.proofs.Levels.{has_ticked, edge_cycle}

-- ticks and a clock edge are a cycle
pub whole_cycle : (f : Faults) (g : Configuration) (root : ℕ → ℕ) (knots : List ClassNode) (pins : List ℕ) (drive read : Pins) (low clear : List Bool) (old mid new : List Gate) (before : Outputs) (ticks : ℕ) → g.ticks ≡ ticks →
    AreDriven pins drive low → IsClear clear → IsWired f g root knots pins old → AreOutputs g old before → HaveTicked f knots low old ticks mid →
    IsEdge f knots low clear pins read mid new → HasCycled f g root knots pins drive read before new
whole_cycle f g root knots pins drive read low clear old mid new before ticks same driven is_clear wired gives ticked edge =
    edge_cycle driven is_clear (subst (λ n. HasTicked f g root knots pins drive n before mid) (sym same) (has_ticked driven wired gives ticked)) edge
