-- The weights of the depths, and the walk by them.
use Rattle.std.specs.Prelude.{◌≡◌, ℕ, zero, suc, ◌+◌, ◌*◌, ◌/◌, ◌%◌, ◌-◌, ◌<◌, ◌≤◌, ◌^◌, if◌then◌else◌, nat_lt, List, [], ◌∷◌}
use Rattle.machine_shape.specs.declared.way.{Kind.Kind, Site.Site, Weight.Weight, Weights.Weights}
use Rattle.machine_shape.specs.Counts.{AreFull}
use Rattle.machine_shape.specs.{Kinds.numbers_in, Kinds.path_of, Walk.Levels, Walk.Own, Walk.Path, Walk.Place, Walk.size, Walk.under}

-- no count is 0, and the numbers of the kind are few
pub record Fits (kind : Kind) (ls : Levels) : Type 0 where
  pub full : AreFull ls
  pub small : size (numbers_in kind) ls < 2 ^ 32

-- the weights of the depths from a node on
abbrev pub weights_in : Own → Levels → List Weight
weights_in numbers [] = []
weights_in numbers (l ∷ ls) = record { own = numbers (l ∷ ls); each = size numbers ls } ∷ weights_in numbers ls

abbrev pub weights_at : Weights → List Weight
weights_at w = w.root ∷ w.modules ∷ w.chips ∷ w.hextants ∷ []

-- the place of a number, and the first number at the end of a way
abbrev pub place_by : List Weight → ℕ → Place
place_by [] x = record { path = []; position = x }
place_by (w ∷ ws) x =
    if nat_lt x w.own then record { path = []; position = x } else under ((x - w.own) / w.each) (place_by ws ((x - w.own) % w.each))

abbrev pub start_by : List Weight → Path → ℕ
start_by ws [] = 0
start_by [] (i ∷ p) = 0
start_by (w ∷ ws) (i ∷ p) = w.own + i * w.each + start_by ws p

-- how many wires a child has with all below it, of the node at a depth
abbrev pub each_by : List Weight → ℕ → ℕ
each_by [] k = 7
each_by (w ∷ ws) zero = w.each
each_by (w ∷ ws) (suc k) = each_by ws k

-- where a number isn't the node's own, the children have numbers, and it is one of theirs
pub data IsStep : List Weight → ℕ → Type 0 where
  last : {x : ℕ} → IsStep [] x
  further : {w : Weight} {ws : List Weight} {x : ℕ} → (w.own ≤ x → 0 < w.each) → (w.own ≤ x → IsStep ws ((x - w.own) % w.each)) →
      IsStep (w ∷ ws) x

-- the code's place is this one
pub record IsSiteOf (s : Site) (q : Place) : Type 0 where
  pub path : path_of s.way ≡ q.path
  pub position : s.position ≡ q.position
