-- Tables that differ from what they give, and marks of those that may.
use Rattle.std.specs.Prelude.{◌≡◌, ◌/◌, ◌%◌, ◌<◌, ◌≤◌, ℕ, List, Bool, false, slice_index_or}
use Rattle.map_network.specs.Rows.{cell_at}

abbrev pub number_at : List ℕ → ℕ → ℕ
number_at numbers k = slice_index_or numbers k 0

-- marks are bits, 64 to a word
abbrev pub is_marked : List ℕ → ℕ → Bool
is_marked marks t = cell_at (number_at marks (t / 64)) (t % 64)

-- the mask's cell at the table's address
abbrev pub differs : (masks addresses : List ℕ) → ℕ → Bool
differs masks addresses t = cell_at (number_at masks t) (number_at addresses t)

-- exactly the tables that differ are marked
abbrev pub AreMarked : (masks addresses marks : List ℕ) → Type 0
AreMarked masks addresses marks = (t : ℕ) → is_marked marks t ≡ differs masks addresses t

-- so are the first m of them, and no others
pub record AreMarkedTo (masks addresses : List ℕ) (m : ℕ) (marks : List ℕ) : Type 0 where
  pub done : (t : ℕ) → t < m → is_marked marks t ≡ differs masks addresses t
  pub rest : (t : ℕ) → m ≤ t → is_marked marks t ≡ false
