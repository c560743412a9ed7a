-- Walks over crosspoints, as a test makes them.
use Rattle.std.specs.Prelude.{ℕ, ◌<◌, List, [], ◌∷◌}
use Rattle.machine_shape.specs.{declared.Shape.Shape, Shape.Ends, Shape.ends_of, Shape.crosses_of}

-- these crosspoints of the machine lead from a over these wires to e, a and e among them
pub data LeadsTo (m : Shape) : ℕ → List ℕ → List ℕ → ℕ → Type 0 where
  ends : {a : ℕ} → LeadsTo m a [] (a ∷ []) a
  goes : {a b e x : ℕ} {xs ws : List ℕ} → x < crosses_of m → Ends (ends_of m x) a b → LeadsTo m b xs ws e → LeadsTo m a (x ∷ xs) (a ∷ ws) e
