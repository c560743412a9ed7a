-- Valuations of covers, and the orders in which they can be found.
use Rattle.std.specs.Prelude.{ℕ, ◌≡◌, ◌<◌, List, Bool, false, length, slice_index_or}
use Rattle.design_netlist.specs.{declared.netlist_data.Cover.Cover, Covers.cover_at, Covers.truth, Covers.Reads}

abbrev pub number_at : List ℕ → ℕ → ℕ
number_at xs k = slice_index_or xs k 0

abbrev pub bit_at : List Bool → ℕ → Bool
bit_at values s = slice_index_or values s false

-- each cover's output has its truth, and every other signal the bit of the base
pub record IsSettled (covers : List Cover) (base given : ℕ → Bool) : Type 0 where
  pub truths : (i : ℕ) → i < length covers → given (cover_at covers i).out ≡ truth given (cover_at covers i)
  pub others : (s : ℕ) → ((i : ℕ) → i < length covers → (cover_at covers i).out ≡ s → ⊥) → given s ≡ base s

-- all covers, each once; each reads only earlier ones, and no two drive one signal
pub record IsOrder (covers : List Cover) (order : List ℕ) : Type 0 where
  pub within : (k : ℕ) → k < length order → number_at order k < length covers
  pub all : (i : ℕ) → i < length covers → (k : ℕ) × (k < length order) × (number_at order k ≡ i)
  pub once : (j k : ℕ) → j < k → k < length order →
      (cover_at covers (number_at order j)).out ≡ (cover_at covers (number_at order k)).out → ⊥
  pub earlier : (k v : ℕ) → k < length order → Reads covers (number_at order k) v → (j : ℕ) × (j < k) × (number_at order j ≡ v)

-- exactly one valuation is so
abbrev pub HasOneValuation : List Cover → (ℕ → Bool) → Type 0
HasOneValuation covers base =
    (given : ℕ → Bool) × IsSettled covers base given × ((other : ℕ → Bool) → IsSettled covers base other → (s : ℕ) → other s ≡ given s)

-- the first m covers of the order have their truths, and the other signals their old bits
pub record IsSettledTo (covers : List Cover) (order : List ℕ) (m : ℕ) (old new : List Bool) : Type 0 where
  pub len : length new ≡ length old
  pub truths : (j : ℕ) → j < m → bit_at new (cover_at covers (number_at order j)).out ≡ truth (bit_at new)
      (cover_at covers (number_at order j))
  pub others : (s : ℕ) → ((j : ℕ) → j < m → (cover_at covers (number_at order j)).out ≡ s → ⊥) → bit_at new s ≡ bit_at old s
