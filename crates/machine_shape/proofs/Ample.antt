-- A machine with two pins, and two ports and two lines at each level.
use Rattle.machine_shape.proofs.Vocabulary.{ℕ, suc, ◌<◌, [], ◌∷◌, arith, Shape}
use Rattle.machine_shape.specs.Vocabulary.{AreAmple, IsAmple, Levels, Path, rest, IsSpot, stop, step, ports_in, lines_in, levels_of, nodes_of, pins_of, lines_of, ports_of}
use Rattle.machine_shape.proofs.Ways.{IsNode}
use Rattle.machine_shape.proofs.Numbering.{way_is, root_is_node}

-- of each node two ports and two lines
ample_at : {ls : Levels} {p : Path} → AreAmple ls → IsSpot ls p → IsNode ls p → (1 < ports_in (rest ls p)) × (1 < lines_in (rest ls p))
ample_at {ls = []} h stop n = absurd (omega arith)
ample_at {ls = l ∷ ls} h stop n = h 0 l (omega arith)
ample_at h (step b s) n = ample_at (λ k d e. h (suc k) d (omega arith)) s n

module _ (m : Shape) (ample : IsAmple m.counts) where
  pub two_of : (n : ℕ) → n < nodes_of m → (1 < ports_of m n) × (1 < lines_of m n)
  unfolding ports_of lines_of levels_of
  two_of n h = let r = way_is m n h in ample_at ample r.0 r.1

  pub two_pins : 1 < pins_of m
  unfolding pins_of levels_of
  two_pins = (ample_at ample stop (root_is_node m)).0
