-- What a checked design does: the right valuations, and the rows that follow from them.
use Rattle.std.specs.Prelude.{ℕ, ◌≡◌, ◌<◌, List, [], ◌∷◌, Bool, false, map, length}
use Rattle.design_netlist.specs.{declared.netlist_data.NetlistData.NetlistData, Covers.cover_at, Covers.truth, Drafts.IsDriven}

-- inputs have the vector, outputs of latches the state, outputs of covers their truths, and what nothing drives is 0
pub record IsRightValuation (d : NetlistData) (state vector : List Bool) (given : ℕ → Bool) : Type 0 where
  pub inputs : map (λ p. given p.signal) d.inputs ≡ vector
  pub latches : map (λ l. given l.out) d.latches ≡ state
  pub truths : (i : ℕ) → i < length d.covers → given (cover_at d.covers i).out ≡ truth given (cover_at d.covers i)
  pub others : (s : ℕ) → (IsDriven d s → ⊥) → given s ≡ false

abbrev pub outputs_in : NetlistData → (ℕ → Bool) → List Bool
outputs_in d given = map (λ p. given p.signal) d.outputs

-- what the latches read
abbrev pub next_state : NetlistData → (ℕ → Bool) → List Bool
next_state d given = map (λ l. given l.from) d.latches

abbrev pub first_state : NetlistData → List Bool
first_state d = map (λ l. l.init) d.latches

-- one row for each vector: the outputs in a right valuation, and the next state from it
abbrev pub RowsFrom : NetlistData → List Bool → List (List Bool) → List (List Bool) → Type 0
RowsFrom d state [] [] = Unit {0}
RowsFrom d state [] (row ∷ rows) = ⊥
RowsFrom d state (vector ∷ vectors) [] = ⊥
RowsFrom d state (vector ∷ vectors) (row ∷ rows) =
    (given : ℕ → Bool) × IsRightValuation d state vector given × (row ≡ outputs_in d given) × RowsFrom d (next_state d given) vectors rows

abbrev pub AreRows : NetlistData → List (List Bool) → List (List Bool) → Type 0
AreRows d vectors rows = RowsFrom d (first_state d) vectors rows

-- exactly one valuation is right
abbrev pub HasOneRight : NetlistData → List Bool → List Bool → Type 0
HasOneRight d state vector =
    (given : ℕ → Bool) × IsRightValuation d state vector given × ((other : ℕ → Bool) → IsRightValuation d state vector other → (s : ℕ) → other s ≡ given s)

-- exactly one list is that of the rows
abbrev pub HasOneRows : NetlistData → List (List Bool) → Type 0
HasOneRows d vectors =
    (rows : List (List Bool)) × AreRows d vectors rows × ((other : List (List Bool)) → AreRows d vectors other → other ≡ rows)
