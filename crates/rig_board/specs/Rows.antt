-- A pair of drive and reading as it is kept.
use Rattle.std.specs.Prelude.{◌≡◌, ℕ, List, All, length}
use Rattle.rig_board.specs.declared.kept.Row.{Row}

-- both have so many bits
abbrev pub IsPair : ℕ → Row → Type 0
IsPair n r = (length r.drive ≡ n) × (length r.reading ≡ n)

abbrev pub AreBlank : ℕ → List Row → Type 0
AreBlank n rows = All (IsPair n) rows
