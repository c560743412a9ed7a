-- Cells as masks: what they give at each address.
use Rattle.std.specs.Prelude.{◌≡◌, ◌<◌, ◌||◌, ℕ, List, [], ◌∷◌, Bool, false, map, ◌==◌}
use Rattle.map_network.specs.Rows.{cell_at}

-- at each address the cells give this
abbrev pub Give : ℕ → (ℕ → Bool) → Type 0
Give cells f = (a : ℕ) → a < 64 → cell_at cells a ≡ f a

-- the masks, each at the address
abbrev pub masks_at : List ℕ → ℕ → List Bool
masks_at masks a = map (λ m. cell_at m a) masks

-- the name is among them
abbrev pub is_among : List ℕ → ℕ → Bool
is_among [] x = false
is_among (n ∷ ns) x = (n == x) || is_among ns x
