-- Covers, those that read one another, and those on a cycle.
use Rattle.std.specs.Prelude.{ℕ, ◌≡◌, ◌<◌, ◌&&◌, not, List, [], ◌∷◌, Bool, true, false, map, length, if◌then◌else◌, slice_index_or}
use Rattle.std.specs.List.{Contains}
use Rattle.design_netlist.specs.declared.netlist_data.{Cover.Cover, Lit.Lit, Lit.TheVariants.Zero, Lit.TheVariants.One, Lit.TheVariants.Any}

abbrev pub no_cover : Cover
no_cover = record { out = 0; ins = []; rows = []; off = false; line = 0 }

abbrev pub cover_at : List Cover → ℕ → Cover
cover_at covers k = slice_index_or covers k no_cover

abbrev pub cover_line : List Cover → ℕ → ℕ
cover_line covers k = (cover_at covers k).line

-- signals are below a number, and rows as long as the inputs
pub record IsCoverOver (c : Cover) (signals : ℕ) : Type 0 where
  pub out : c.out < signals
  pub ins : (k : ℕ) → k < length c.ins → slice_index_or c.ins k 0 < signals
  pub rows : (k : ℕ) → k < length c.rows → length (slice_index_or c.rows k []) ≡ length c.ins

abbrev pub fits : Lit → Bool → Bool
fits Zero b = not b
fits One b = b
fits Any b = true

-- every entry of the row fits its input
abbrev pub matches : List Lit → List Bool → Bool
matches [] bits = true
matches (l ∷ ls) [] = true
matches (l ∷ ls) (b ∷ bs) = fits l b && matches ls bs

abbrev pub some_matches : List (List Lit) → List Bool → Bool
some_matches [] bits = false
some_matches (r ∷ rs) bits = if matches r bits then true else some_matches rs bits

-- some row matches, or for rows that list the zeros none does
abbrev pub truth : (ℕ → Bool) → Cover → Bool
truth given c = if c.off then not (some_matches c.rows (map given c.ins)) else some_matches c.rows (map given c.ins)

-- a cover of these rows over these signals
abbrev pub cover_of : List (List Lit) → Bool → List ℕ → Cover
cover_of rows off ins = record { out = 0; ins = ins; rows = rows; off = off; line = 0 }

-- cover i reads the output of cover j
pub record Reads (covers : List Cover) (i j : ℕ) : Type 0 where
  pub reader : i < length covers
  pub driver : j < length covers
  pub input : Contains (cover_at covers i).ins (cover_at covers j).out

-- from a cover to another, each reads the next
pub data Reaches (covers : List Cover) : ℕ → ℕ → Type 0 where
  here : {i : ℕ} → Reaches covers i i
  onward : {i j k : ℕ} → Reads covers i j → Reaches covers j k → Reaches covers i k

-- the cover is on a cycle of covers, each of which reads the one before
abbrev pub IsOnCycle : List Cover → ℕ → Type 0
IsOnCycle covers i = (j : ℕ) × Reads covers i j × Reaches covers j i
