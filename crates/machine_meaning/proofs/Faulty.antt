-- What a list that covers the faults has to list.
use Rattle.machine_meaning.proofs.Vocabulary.{◌≡◌, ◌≢◌, ℕ, ◌<◌, true, Option, None, refl, subst, IsSome, false≢true, Shape}
use Rattle.machine_shape.specs.Shape.{in_order, wires_of, crosses_of, tables_of}
use Rattle.machine_meaning.specs.Vocabulary.{Faults, stuck_wire, stuck_cross, wrong_cell, stuck_register, is_bridge, here, then, bridged, Defects, Covers, IsFreeWire, IsFreeCross, IsFreeTable}

not_some : {A : Type 0} {o : Option A} → o ≡ None → ¬ IsSome o
not_some {A} e s = let f : IsSome {T = A} None = subst IsSome e s in absurd (false≢true f)

module _ {m : Shape} {d : Defects} {f : Faults} (covers : Covers m d f) where
  pub wire_listed : (w : ℕ) → w < wires_of m → IsSome (stuck_wire f w) → ¬ IsFreeWire d w
  wire_listed w h s free = not_some (covers.wires w h free w here) s

  pub cross_listed : (x : ℕ) → x < crosses_of m → IsSome (stuck_cross f x) → ¬ IsFreeCross m d x
  cross_listed x h s free = not_some (covers.crosses x h free) s

  pub cell_listed : (t a : ℕ) → t < tables_of m → a < 64 → IsSome (wrong_cell f t a) → ¬ IsFreeTable m d t
  cell_listed t a h b s free = not_some (covers.cells t a h b free) s

  pub register_listed : (t : ℕ) → t < tables_of m → IsSome (stuck_register f t) → ¬ IsFreeTable m d t
  register_listed t h s free = not_some (covers.registers t h free) s

  pub bridge_listed : (w u : ℕ) → w < wires_of m → u < wires_of m → is_bridge f (w, u) ≡ true → w ≢ u → IsFreeWire d w → ¬ IsFreeWire d u
  bridge_listed w u h k is differ free on = differ (covers.pairs w u h k free on (then here (bridged (w, u) is (in_order refl refl))))
